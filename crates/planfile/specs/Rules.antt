-- What the records of a file say together, and why a record is refused after them.
use Rattle.std.specs.Prelude.{ℕ, ◌+◌, ◌-◌, Bool, true, false, if◌then◌else◌, not, ◌&&◌, ◌||◌, List, [], ◌∷◌, ◌++◌, length, Some, None, Option, ◌==◌, nat_le, nat_lt, slice_index_or}
use Rattle.std.specs.List.{list_all}
use Rattle.cores.specs.declared.ladder.Block.{Block}
use Rattle.graph.specs.Drafts.{Content, with_deadline, with_time, with_edge, in_range, listed}
use Rattle.planfile.specs.Records.{Entry, deadline, step, edge, block, hold_back, late, kind_of, body_of, number_at, front_kind, front_body, entry_of}
use Rattle.planfile.specs.declared.cause.Cause.{Cause}
use Rattle.planfile.specs.declared.cause.Cause.TheVariants.{CutShort, UnknownKind, BodyLength, OutOfOrder, NoRoom, OutOfRange, NotRising, EdgeTwice}
use Rattle.planfile.specs.declared.kind.KindRule.{KindRule}
use Rattle.cores.specs.declared.window.Window.{Window}

-- What has been read: what there is of the plan, the blocks in file order, hold-back and late if present.
pub record Reading : Type 0 where
  pub held : Content
  pub blocks : List Block
  pub held_back : Option Window
  pub late_by : Option ℕ

abbrev pub nothing_read : Reading
nothing_read = record { held = record { deadline = 0; times = []; edges = [] }; blocks = []; held_back = None; late_by = None }

-- One record more.
abbrev pub taken : Entry → Reading → Reading
taken (deadline ticks) read = record { held = with_deadline ticks read.held; blocks = read.blocks; held_back = read.held_back; late_by = read.late_by }
taken (step time label) read = record { held = with_time time read.held; blocks = read.blocks; held_back = read.held_back; late_by = read.late_by }
taken (edge from to) read = record { held = with_edge (record { from = from; to = to }) read.held; blocks = read.blocks; held_back = read.held_back; late_by = read.late_by }
taken (block cores ticks) read = record { held = read.held; blocks = read.blocks ++ (record { cores = cores; ticks = ticks } ∷ []); held_back = read.held_back; late_by = read.late_by }
taken (hold_back cores from until) read = record { held = read.held; blocks = read.blocks; held_back = Some (record { cores = cores; from = from; until = until }); late_by = read.late_by }
taken (late ticks) read = record { held = read.held; blocks = read.blocks; held_back = read.held_back; late_by = Some ticks }

-- What a list of records says, the newest in front.
abbrev pub reading_of : List Entry → Reading
reading_of [] = nothing_read
reading_of (entry ∷ earlier) = taken entry (reading_of earlier)

-- The kind of the newest record, 0 before the first.
abbrev pub last_kind : List Entry → ℕ
last_kind [] = 0
last_kind (entry ∷ earlier) = kind_of entry

-- The shortest and the longest body of a kind, and whether it may come again: deadline, step, edge, block, hold-back, late.
abbrev pub kind_rules : List KindRule
kind_rules =
    record { shortest = 2; longest = 2; repeats = false }
    ∷ (record { shortest = 2; longest = 18; repeats = true }
    ∷ (record { shortest = 2; longest = 2; repeats = true }
    ∷ (record { shortest = 3; longest = 3; repeats = true }
    ∷ (record { shortest = 5; longest = 5; repeats = false }
    ∷ (record { shortest = 2; longest = 2; repeats = false }
    ∷ [])))))

abbrev pub no_rule : KindRule
no_rule = record { shortest = 0; longest = 0; repeats = false }

-- Kinds are counted from 1.
abbrev pub rule_of : ℕ → KindRule
rule_of kind = slice_index_or kind_rules (kind - 1) no_rule

abbrev pub unknown : ℕ → Bool
unknown kind = not (nat_le 1 kind && nat_le kind 6)

abbrev pub wrong_length : ℕ → ℕ → Bool
wrong_length kind size = not (nat_le (rule_of kind).shortest size && nat_le size (rule_of kind).longest)

-- After the kind of the last record: kinds never fall, and some come once.
abbrev pub out_of_order : ℕ → ℕ → Bool
out_of_order last kind = nat_lt kind last || (kind == last && not (rule_of kind).repeats)

-- There are places for 64 steps and for the blocks of the caller's list.
abbrev pub no_room : ℕ → Reading → Entry → Bool
no_room places read (deadline ticks) = false
no_room places read (step time label) = nat_le 64 (length read.held.times)
no_room places read (edge from to) = false
no_room places read (block cores ticks) = nat_le places (length read.blocks)
no_room places read (hold_back cores from until) = false
no_room places read (late ticks) = false

-- A label's bytes are printed characters, without the blank.
abbrev pub printable : List ℕ → Bool
printable bytes = list_all (λ byte. nat_le 33 byte && nat_le byte 126) bytes

abbrev pub some_cores : ℕ → Bool
some_cores cores = nat_le 1 cores && nat_le cores 64

-- The values of a record are in range.
abbrev pub right_values : Entry → Bool
right_values (deadline ticks) = in_range ticks
right_values (step time label) = in_range time && printable label
right_values (edge from to) = true
right_values (block cores ticks) = some_cores cores && in_range ticks
right_values (hold_back cores from until) = some_cores cores && nat_lt from until
right_values (late ticks) = in_range ticks

-- An edge rises between steps that were read.
abbrev pub not_rising : Reading → Entry → Bool
not_rising read (deadline ticks) = false
not_rising read (step time label) = false
not_rising read (edge from to) = not (nat_lt from to && nat_lt to (length read.held.times))
not_rising read (block cores ticks) = false
not_rising read (hold_back cores from until) = false
not_rising read (late ticks) = false

abbrev pub edge_again : Reading → Entry → Bool
edge_again read (deadline ticks) = false
edge_again read (step time label) = false
edge_again read (edge from to) = listed from to read.held.edges
edge_again read (block cores ticks) = false
edge_again read (hold_back cores from until) = false
edge_again read (late ticks) = false

-- The causes for which a whole record can be refused, in the order in which they count: by its kind and its length, then by what it says.
abbrev pub kind_causes : ℕ → ℕ → ℕ → List (Bool × Cause)
kind_causes last kind size =
    (unknown kind, UnknownKind)
    ∷ ((wrong_length kind size, BodyLength)
    ∷ ((out_of_order last kind, OutOfOrder)
    ∷ []))

abbrev pub said_causes : ℕ → Reading → Entry → List (Bool × Cause)
said_causes places read entry =
    (no_room places read entry, NoRoom)
    ∷ ((not (right_values entry), OutOfRange)
    ∷ ((not_rising read entry, NotRising)
    ∷ ((edge_again read entry, EdgeTwice)
    ∷ [])))

abbrev pub causes : ℕ → List Entry → ℕ → ℕ → Entry → List (Bool × Cause)
causes places earlier kind size entry = kind_causes (last_kind earlier) kind size ++ said_causes places (reading_of earlier) entry

-- The first that holds, if any.
abbrev pub first_cause : List (Bool × Cause) → Option Cause
first_cause [] = None
first_cause (test ∷ tests) = if test.0 then Some test.1 else first_cause tests

-- Why a record is refused after others, if it is,
abbrev pub entry_cause : ℕ → List Entry → Entry → Option Cause
entry_cause places earlier entry = first_cause (causes places earlier (kind_of entry) (length (body_of entry)) entry)

-- and why the one at the front of some bytes is, which may be cut short.
abbrev pub cut_short : List ℕ → Bool
cut_short bytes = nat_lt (length bytes) 4 || nat_lt (length bytes) (4 + number_at bytes 0)

abbrev pub front_cause : ℕ → List Entry → List ℕ → Option Cause
front_cause places earlier bytes =
    if cut_short bytes then Some CutShort
    else first_cause (causes places earlier (front_kind bytes) (length (front_body bytes)) (entry_of (front_kind bytes) (front_body bytes)))
