-- What the parts of the reader promise one another.
use Rattle.std.specs.Prelude.{◌≡◌, ℕ, ◌+◌, ◌-◌, ◌≤◌, true, Bool, ◌⊎◌, List, [], ◌++◌, length, take, OnOk, OnErr, Some, None, Ok, Err, Option, Result}
use Rattle.std.specs.Borrow.{Bor}
use Rattle.cores.specs.declared.ladder.Block.{Block}
use Rattle.graph.specs.Drafts.{PlanOf, content}
use Rattle.graph.specs.declared.plan.Plan.{Plan}
use Rattle.graph.specs.declared.refusal.Refusal.{Refusal}
use Rattle.graph.specs.declared.refusal.Refusal.TheVariants as refusal
use Rattle.planfile.specs.Files.{fault, Keeps, FileLaw, layers_of, outcome}
use Rattle.planfile.specs.Kinds.{kind_number, last_number}
use Rattle.planfile.specs.Records.{Entry, deadline, step, edge, block, hold_back, late, kind_of, body_of, encoded, file_of, entry_of}
use Rattle.planfile.specs.Rules.{Reading, reading_of, last_kind, taken, kind_causes, said_causes, first_cause, cut_short, unknown, wrong_length}
use Rattle.planfile.specs.declared.cause.Cause.{Cause}
use Rattle.planfile.specs.declared.cause.Cause.TheVariants.{CutShort, UnknownKind, NoRoom, OutOfRange, NotRising, EdgeTwice, Incomplete, ImpliedEdge}
use Rattle.planfile.specs.declared.cause.Fault.{Fault}
use Rattle.planfile.specs.declared.entry.Entry as declared
use Rattle.planfile.specs.declared.entry.Entry.TheVariants as variant
use Rattle.planfile.specs.declared.reader.Reader.{Reader}
use Rattle.planfile.specs.declared.record.Record.{Record}
use Rattle.planfile.specs.declared.records.Records.{Records}
use Rattle.planfile.specs.declared.whole.Whole.{Whole}

-- The record at the front of some bytes is of no known kind.
abbrev pub UnknownFront : List ℕ → Type 0
UnknownFront bytes = (kind : ℕ) × (body : List ℕ) × (after : List ℕ) × (bytes ≡ encoded kind body ++ after) × (unknown kind ≡ true)

-- There is no record at the front of some bytes: they end within it, or its kind is unknown.
abbrev pub BadFront : List ℕ → ℕ → Fault → Type 0
BadFront bytes place bad = ((cut_short bytes ≡ true) × (bad ≡ fault CutShort place)) ⊎ (UnknownFront bytes × (bad ≡ fault UnknownKind place))

-- The record at the front of some bytes, which begin at a place of the file, and the bytes after it, or why there is none.
abbrev pub Cut : List ℕ → ℕ → Result (Record × Bor (List ℕ)) Fault → Type 0
Cut bytes place (Ok (found, after)) = (found.place ≡ place) × (bytes ≡ encoded (kind_number found.kind) found.body.now ++ after.now)
Cut bytes place (Err bad) = BadFront bytes place bad

-- The record at the front of what is left of a file comes next, and what is behind it is left.
pub record GivesRecord (before : Records) (found : Record) (after : Records) : Type 0 where
  pub at : found.place ≡ length before.file.now - length before.rest.now
  pub laid : before.rest.now ≡ encoded (kind_number found.kind) found.body.now ++ after.rest.now
  pub file : after.file.now ≡ before.file.now

-- There is no record at the front of what is left of a file, and nothing is left behind that.
pub record GivesFault (before : Records) (bad : Fault) (after : Records) : Type 0 where
  pub some : 1 ≤ length before.rest.now
  pub front : BadFront before.rest.now (length before.file.now - length before.rest.now) bad
  pub ended : after.rest.now ≡ []

-- The next of a file's records: none at the end, and else the first that is left, or why there is none.
abbrev pub NextRecord : Records → Option (Result Record Fault) → Records → Type 0
NextRecord before None after = (before.rest.now ≡ []) × (after.rest.now ≡ [])
NextRecord before (Some (Ok found)) after = GivesRecord before found after
NextRecord before (Some (Err bad)) after = GivesFault before bad after

-- What a record says, in words.
abbrev pub meaning : declared.Entry → Entry
meaning (variant.Deadline ticks) = deadline ticks
meaning (variant.Step time label) = step time label.now
meaning (variant.Edge from to) = edge from to
meaning (variant.Block held) = block held.cores held.ticks
meaning (variant.HoldBack window) = hold_back window.cores window.from window.until
meaning (variant.Late ticks) = late ticks

-- A record of a kind with a body says something.
pub record Says (kind : ℕ) (body : List ℕ) (entry : Entry) : Type 0 where
  pub read : entry ≡ entry_of kind body
  pub kind_again : kind_of entry ≡ kind
  pub body_again : body_of entry ≡ body

-- What a body of a kind says: for every length that the kind may have.
abbrev pub Decoded : ℕ → List ℕ → Result declared.Entry Cause → Type 0
Decoded kind body (Ok entry) = Says kind body (meaning entry)
Decoded kind body (Err cause) = wrong_length kind (length body) ≡ true

-- What has been read, as the reader keeps it: so many places of the caller's list are filled.
abbrev pub reading_in : Reader → Reading
reading_in reader = record {
  held = content reader.draft;
  blocks = take reader.filled reader.blocks.now;
  held_back = reader.layers.hold_back;
  late_by = reader.layers.late;
}

-- The reader still has the caller's list, of as many places.
pub record KeepsList (before after : Reader) : Type 0 where
  pub reference : after.blocks.ghost_name ≡ before.blocks.ghost_name
  pub size : length after.blocks.now ≡ length before.blocks.now

-- The answer where there is a cause or none.
abbrev pub refused_by : Option Cause → Result (Unit {0}) Cause
refused_by None = Ok tt
refused_by (Some cause) = Err cause

-- A draft's refusals are causes of the file.
abbrev pub cause_of : Refusal → Cause
cause_of refusal.OutOfRange = OutOfRange
cause_of refusal.TooManySteps = NoRoom
cause_of refusal.NotRising = NotRising
cause_of refusal.EdgeTwice = EdgeTwice
cause_of refusal.Incomplete = Incomplete
cause_of (refusal.ImpliedEdge place) = ImpliedEdge

-- What a record says is entered after what has been read, or refused for the first cause that holds.
pub record Entered (before : Reader) (entry : Entry) (answer : Result (Unit {0}) Cause) (after : Reader) : Type 0 where
  pub answered : answer ≡ refused_by (first_cause (said_causes (length before.blocks.now) (reading_in before) entry))
  pub reading : OnOk answer (reading_in after ≡ taken entry (reading_in before))
  pub filled : OnErr answer (after.filled ≡ before.filled)
  pub list : KeepsList before after

-- The causes for which the next record can be refused, by its kind and its length, and by what it says.
abbrev pub kind_causes_in : Reader → Record → List (Bool × Cause)
kind_causes_in reader next = kind_causes (last_number reader.last) (kind_number next.kind) (length next.body.now)

abbrev pub said_in : Record → Entry
said_in next = entry_of (kind_number next.kind) next.body.now

abbrev pub causes_in : Reader → Record → List (Bool × Cause)
causes_in reader next = kind_causes_in reader next ++ said_causes (length reader.blocks.now) (reading_in reader) (said_in next)

-- The next record is taken in, or refused for the first cause that holds.
pub record Takes (before : Reader) (next : Record) (answer : Result (Unit {0}) Cause) (after : Reader) : Type 0 where
  pub answered : answer ≡ refused_by (first_cause (causes_in before next))
  pub reading : OnOk answer (reading_in after ≡ taken (said_in next) (reading_in before))
  pub last : OnOk answer (after.last ≡ Some next.kind)
  pub says : first_cause (kind_causes_in before next) ≡ None → Says (kind_number next.kind) next.body.now (said_in next)
  pub list : KeepsList before after

-- What has been read after so many records of a file that keep the rules.
pub record ReadTo (places : ℕ) (entries : List Entry) (reader : Reader) : Type 0 where
  pub kept : Keeps places entries
  pub reading : reading_in reader ≡ reading_of entries
  pub last : last_number reader.last ≡ last_kind entries
  pub size : length reader.blocks.now ≡ places

-- The record that was looked for, or none.
abbrev pub Found : Option (ℕ × List ℕ) → Option Record → Type 0
Found looked None = looked ≡ None
Found looked (Some found) = looked ≡ Some (found.place, found.body.now)

-- A record that was found is in the file, with its header.
abbrev pub Within : List ℕ → Option Record → Type 0
Within file None = Unit {0}
Within file (Some found) = found.place + 4 + length found.body.now ≤ length file

-- What becomes of a file whose records were all read: its plan, or why it is refused, and the law of it.
abbrev pub Concluded : ℕ → List ℕ → List Entry → Result Plan Fault → Type 0
Concluded places file entries (Ok plan) = (outcome places file ≡ Ok entries) × PlanOf (reading_of entries).held plan × FileLaw places file
Concluded places file entries (Err bad) = (outcome places file ≡ Err bad) × FileLaw places file

abbrev pub Ended : Reader → List ℕ → Result Plan Fault → Type 0
Ended reader file answer = (places : ℕ) (entries : List Entry) → file ≡ file_of entries → ReadTo places entries reader → Concluded places file entries answer

-- What a whole file says, by its outcome.
pub record WholeOf (places : ℕ) (file : List ℕ) (list : List Block) (whole : Whole) : Type 0 where
  pub entries : List Entry
  pub accepted : outcome places file ≡ Ok entries
  pub plan : PlanOf (reading_of entries).held whole.plan
  pub blocks : take whole.filled list ≡ (reading_of entries).blocks
  pub within : whole.filled ≤ length list
  pub layers : whole.layers ≡ layers_of (reading_of entries)

abbrev pub WholeRead : ℕ → List ℕ → List Block → Result Whole Fault → Type 0
WholeRead places file list (Ok whole) = WholeOf places file list whole × FileLaw places file
WholeRead places file list (Err bad) = (outcome places file ≡ Err bad) × FileLaw places file
