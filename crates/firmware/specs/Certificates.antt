-- The certificate of a file, and the number that stands for it.
use Rattle.std.specs.Prelude.{◌≡◌, ℕ, ◌≤◌, true, ◌↔◌, List, length, Ok, Err, sum, Result, nat_le}
use Rattle.std.specs.Option.{option_map, unwrap_or}
use Rattle.certificate.specs.Certified.{Certified}
use Rattle.certificate.specs.Marking.{least_yield, LeastYield, Passes, Fails}
use Rattle.certificate.specs.Refusals.{number_of, refusal_of}
use Rattle.certificate.specs.declared.certificate.Certificate.{Certificate}
use Rattle.certificate.specs.declared.marking_test.MarkingTest.{MarkingTest}
use Rattle.graph.specs.Asked.{deadline_of, volume_of, length_of}
use Rattle.graph.specs.Drafts.{Content, PlanOf}
use Rattle.graph.specs.Graphs.{time_of}
use Rattle.graph.specs.Implied.{from_steps}
use Rattle.graph.specs.Lengths.{longest}
use Rattle.graph.specs.declared.plan.Plan.{Plan}
use Rattle.planfile.specs.Causes.{cause_number}
use Rattle.planfile.specs.Files.{Accepted, FileLaw, Refused, layers_of, outcome}
use Rattle.planfile.specs.Records.{Entry}
use Rattle.planfile.specs.Rules.{Reading, reading_of}
use Rattle.planfile.specs.declared.cause.Fault.{Fault}
use Rattle.firmware.specs.Cores.{granted}

-- The volume: the sum of the worst-case times.
abbrev pub volume_in : Content → ℕ
volume_in held = sum held.times

-- The length: the greatest time of a path along the edges.
unfoldable pub length_in : Content → ℕ
length_in held = longest (time_of held.times) (from_steps held.edges) (length held.times)

-- The marking test of the whole job: from tick 0 to the deadline, with the length.
abbrev pub test_in : Content → MarkingTest
test_in held = record { first = 0; deadline = held.deadline; length = length_in held }

-- The cores that the file grants.
abbrev pub width_in : Reading → ℕ → ℕ
width_in read = granted read.blocks (layers_of read)

-- The certificate of what was read: certified where the least yield is at least the volume.
abbrev pub certificate_of : Reading → Certificate
certificate_of read = record {
  volume = volume_in read.held;
  length = length_in read.held;
  deadline = read.held.deadline;
  least = least_yield (width_in read) (test_in read.held) 64;
  certified = nat_le (volume_in read.held) (least_yield (width_in read) (test_in read.held) 64);
}

abbrev pub certificate_by : Result (List Entry) Fault → Result Certificate Fault
certificate_by (Ok entries) = Ok (certificate_of (reading_of entries))
certificate_by (Err bad) = Err bad

-- A file's certificate, or why it is refused, with 64 places for blocks.
unfoldable pub file_certificate : List ℕ → Result Certificate Fault
file_certificate file = certificate_by (outcome 64 file)

-- The certificate is that of a plan.
pub record OfPlan (read : Reading) (plan : Plan) : Type 0 where
  pub volume : volume_in read.held ≡ volume_of plan
  pub length : length_in read.held ≡ length_of plan
  pub deadline : read.held.deadline ≡ deadline_of plan
  pub certified : ((certificate_of read).certified ≡ true) ↔ Certified (width_in read) plan

-- In one number: 0 for certified, else the refusal's.
abbrev pub number_by : Result Certificate Fault → ℕ
number_by (Ok certificate) = unwrap_or (option_map number_of (refusal_of certificate.certified)) 0
number_by (Err bad) = cause_number bad.cause

-- What makes a file's certificate right: its records are those of the file; no marking yields less than the least yield and some marking yields it;
-- it is certified just where every marking yields the volume; and so it is with every plan that has just what the file says.
pub record CertificateLaw (file : List ℕ) : Type 0 where
  pub records : FileLaw 64 file
  pub least : (entries : List Entry) → outcome 64 file ≡ Ok entries
      → LeastYield (width_in (reading_of entries)) (test_in (reading_of entries).held) 64 (certificate_of (reading_of entries)).least
  pub certified : (entries : List Entry) → outcome 64 file ≡ Ok entries
      → ((certificate_of (reading_of entries)).certified ≡ true) ↔ Passes (width_in (reading_of entries)) (test_in (reading_of entries).held) 64 (volume_in (reading_of entries).held)
  pub plan : (entries : List Entry) → outcome 64 file ≡ Ok entries → (plan : Plan) → PlanOf (reading_of entries).held plan → OfPlan (reading_of entries) plan

-- What the one number says: 0 just for a file that is accepted and whose markings all yield the volume, 11 just where it is accepted and one yields less,
-- and any other just for a file that is refused by that number.
pub record NumberLaw (file : List ℕ) (number : ℕ) : Type 0 where
  pub certified : (number ≡ 0) ↔ ((entries : List Entry) × Accepted 64 file entries × Passes (width_in (reading_of entries)) (test_in (reading_of entries).held) 64 (volume_in (reading_of entries).held))
  pub uncertified : (number ≡ 11) ↔ ((entries : List Entry) × Accepted 64 file entries × Fails (width_in (reading_of entries)) (test_in (reading_of entries).held) 64 (volume_in (reading_of entries).held))
  pub refused : (n : ℕ) → 1 ≤ n → n ≤ 10 → (number ≡ n) ↔ ((bad : Fault) × Refused 64 file bad × (cause_number bad.cause ≡ n))
  pub none_else : number ≤ 11
