-- What becomes of a file: a definition, and above it the law that says the same of whole files.
use Rattle.std.specs.Prelude.{◌≡◌, ℕ, zero, suc, ◌-◌, ◌<◌, ◌≤◌, Bool, if◌then◌else◌, ◌||◌, ◌⊎◌, ◌↔◌, List, [], ◌∷◌, ◌++◌, length, replicate, Some, None, Ok, Err, Option, Result, IfSome, ◌==◌, ◌≢◌}
use Rattle.std.specs.List.{slice_get}
use Rattle.cores.specs.declared.ladder.Block.{Block}
use Rattle.graph.specs.Asked.{steps_of, deadline_of}
use Rattle.graph.specs.Drafts.{Lacks, PlanOf, lacking}
use Rattle.graph.specs.Implied.{FirstImpliedBy, NoneImpliedBy, first_implied}
use Rattle.graph.specs.declared.plan.Plan.{Plan}
use Rattle.planfile.specs.Records.{Entry, kind_of, body_of, encoded, file_of, front_kind, front_body, behind_front, entry_of}
use Rattle.planfile.specs.Rules.{Reading, reading_of, last_kind, kind_causes, first_cause, entry_cause, front_cause}
use Rattle.planfile.specs.declared.cause.Cause.{Cause}
use Rattle.planfile.specs.declared.cause.Cause.TheVariants.{CutShort, Incomplete, ImpliedEdge}
use Rattle.planfile.specs.declared.cause.Fault.{Fault}
use Rattle.planfile.specs.declared.layers.Layers.{Layers}

-- A cause at a place.
abbrev pub fault : Cause → ℕ → Fault
fault cause place = record { cause = cause; place = place }

-- Refused at a place where there is a cause; else what comes after.
abbrev pub unless_bad : {A : Type 0} → Option Cause → ℕ → Result A Fault → Result A Fault
unless_bad (Some cause) place after = Err (fault cause place)
unless_bad None place after = after

-- Record after record, after those that were read: all of them, or the first bad one. There are not more than `most`.
unfoldable pub read_on : ℕ → ℕ → List Entry → List ℕ → Result (List Entry) Fault
read_on zero places earlier bytes = Ok earlier
read_on (suc most) places earlier [] = Ok earlier
read_on (suc most) places earlier (byte ∷ bytes) =
    unless_bad (front_cause places earlier (byte ∷ bytes)) (length (file_of earlier))
    (read_on most places (entry_of (front_kind (byte ∷ bytes)) (front_body (byte ∷ bytes)) ∷ earlier) (behind_front (byte ∷ bytes)))

-- The deadline, a step or a block is missing.
abbrev pub unready : Reading → Bool
unready read = lacking read.held || length read.blocks == 0

-- The records of a kind in file order: the byte at which each begins, and its body.
abbrev pub of_kind : ℕ → List Entry → List (ℕ × List ℕ)
of_kind kind [] = []
of_kind kind (entry ∷ earlier) = if kind_of entry == kind then of_kind kind earlier ++ ((length (file_of earlier), body_of entry) ∷ []) else of_kind kind earlier

-- The byte at which a record begins, if there is one.
abbrev pub begins : Option (ℕ × List ℕ) → ℕ
begins None = 0
begins (Some (place, body)) = place

-- Where no record is bad: what is missing, or the first implied edge in file order.
abbrev pub unless_implied : Option ℕ → List Entry → Result (List Entry) Fault
unless_implied None entries = Ok entries
unless_implied (Some edge) entries = Err (fault ImpliedEdge (begins (slice_get (of_kind 3 entries) edge)))

abbrev pub at_end : ℕ → Result (List Entry) Fault → Result (List Entry) Fault
at_end size (Err bad) = Err bad
at_end size (Ok entries) =
    if unready (reading_of entries) then Err (fault Incomplete size) else unless_implied (first_implied (reading_of entries).held.edges) entries

-- A file's records, or why it is refused, where there are so many places for blocks. A record has four bytes or more, so there are fewer than bytes.
unfoldable pub outcome : ℕ → List ℕ → Result (List Entry) Fault
outcome places file = at_end (length file) (read_on (length file) places [] file)

-- What the reader answers and leaves by it: hold-back and late,
abbrev pub layers_of : Reading → Layers
layers_of read = record { hold_back = read.held_back; late = read.late_by }

abbrev pub answer_to : Result (List Entry) Fault → Result Layers Fault
answer_to (Ok entries) = Ok (layers_of (reading_of entries))
answer_to (Err bad) = Err bad

-- where a hold-back begins and ends by numbers of two bytes,
abbrev pub EndsFit : Layers → Type 0
EndsFit layers = IfSome layers.hold_back (λ window. (window.from < 65536) × (window.until < 65536))

-- in the plan what the records say, or nothing,
abbrev pub LeavesPlan : Result (List Entry) Fault → Plan → Type 0
LeavesPlan (Ok entries) plan = PlanOf (reading_of entries).held plan
LeavesPlan (Err bad) plan = (steps_of plan ≡ 0) × (deadline_of plan ≡ 0)

-- and in the list the blocks, with zeros behind them.
abbrev pub no_block : Block
no_block = record { cores = 0; ticks = 0 }

abbrev pub blocks_left : ℕ → Result (List Entry) Fault → List Block
blocks_left places (Ok entries) = (reading_of entries).blocks ++ replicate (places - length (reading_of entries).blocks) no_block
blocks_left places (Err bad) = replicate places no_block

-- The law. Records keep the rules where none has a cause after those before it.
abbrev pub Keeps : ℕ → List Entry → Type 0
Keeps places [] = Unit {0}
Keeps places (entry ∷ earlier) = Keeps places earlier × (entry_cause places earlier entry ≡ None)

-- A file is made of records that keep the rules.
pub record MadeOf (places : ℕ) (file : List ℕ) (entries : List Entry) : Type 0 where
  pub bytes : file ≡ file_of entries
  pub kept : Keeps places entries

-- Something is missing.
abbrev pub Unready : Reading → Type 0
Unready read = Lacks read.held ⊎ (read.blocks ≡ [])

-- A file is accepted when it is made of such records, nothing is missing and no edge is implied.
pub record Accepted (places : ℕ) (file : List ℕ) (entries : List Entry) : Type 0 where
  pub made : MadeOf places file entries
  pub ready : Unready (reading_of entries) → ⊥
  pub direct : NoneImpliedBy (reading_of entries).held.edges

-- Why the record at the front of some bytes is bad, by how records are laid out. It is cut short: no record stands there whole;
abbrev pub CutOff : List ℕ → Cause → Type 0
CutOff bytes cause = (cause ≡ CutShort) × ((kind : ℕ) (body after : List ℕ) → bytes ≢ encoded kind body ++ after)

-- or its kind or length is wrong, or its kind is out of order;
abbrev pub WrongKind : List Entry → List ℕ → Cause → Type 0
WrongKind earlier bytes cause =
    (kind : ℕ) × (body : List ℕ) × (after : List ℕ) × (bytes ≡ encoded kind body ++ after) × (first_cause (kind_causes (last_kind earlier) kind (length body)) ≡ Some cause)

-- or what it says is refused.
abbrev pub WrongEntry : ℕ → List Entry → List ℕ → Cause → Type 0
WrongEntry places earlier bytes cause =
    (entry : Entry) × (after : List ℕ) × (bytes ≡ encoded (kind_of entry) (body_of entry) ++ after) × (entry_cause places earlier entry ≡ Some cause)

-- A file is refused at the first bad record: those before keep the rules, and it has the cause and none before that in the order.
pub record BadRecord (places : ℕ) (file : List ℕ) (bad : Fault) : Type 0 where
  pub earlier : List Entry
  pub bytes : List ℕ
  pub split : file ≡ file_of earlier ++ bytes
  pub some : 1 ≤ length bytes
  pub kept : Keeps places earlier
  pub cause : CutOff bytes bad.cause ⊎ (WrongKind earlier bytes bad.cause ⊎ WrongEntry places earlier bytes bad.cause)
  pub place : bad.place ≡ length (file_of earlier)

-- Or, where no record is bad, at its end, because something is missing,
pub record PartMissing (places : ℕ) (file : List ℕ) (bad : Fault) : Type 0 where
  pub entries : List Entry
  pub made : MadeOf places file entries
  pub missing : Unready (reading_of entries)
  pub is : bad ≡ fault Incomplete (length file)

-- or at the first implied edge.
pub record EdgeImplied (places : ℕ) (file : List ℕ) (bad : Fault) : Type 0 where
  pub entries : List Entry
  pub made : MadeOf places file entries
  pub ready : Unready (reading_of entries) → ⊥
  pub edge : ℕ
  pub first : FirstImpliedBy (reading_of entries).held.edges edge
  pub body : List ℕ
  pub there : slice_get (of_kind 3 entries) edge ≡ Some (bad.place, body)
  pub cause : bad.cause ≡ ImpliedEdge

abbrev pub Refused : ℕ → List ℕ → Fault → Type 0
Refused places file bad = BadRecord places file bad ⊎ (PartMissing places file bad ⊎ EdgeImplied places file bad)

-- The outcome is just what the law says.
pub record FileLaw (places : ℕ) (file : List ℕ) : Type 0 where
  pub accepted : (entries : List Entry) → (outcome places file ≡ Ok entries) ↔ Accepted places file entries
  pub refused : (bad : Fault) → (outcome places file ≡ Err bad) ↔ Refused places file bad
