-- The records of a plan file, in words and in bytes. Lists of records have the newest in front.
use Rattle.std.specs.Prelude.{ℕ, ◌+◌, ◌*◌, ◌/◌, ◌%◌, if◌then◌else◌, List, [], ◌∷◌, ◌++◌, length, take, drop, ◌==◌, slice_index}

-- What a record says.
pub data Entry : Type 0 where
  -- the ticks from the release to the deadline
  deadline : (ticks : ℕ) → Entry
  -- a step's worst-case time and its label
  step : (time : ℕ) → (label : List ℕ) → Entry
  -- from a step to a higher one
  edge : (from to : ℕ) → Entry
  -- so many cores for so many ticks
  block : (cores ticks : ℕ) → Entry
  -- so many cores less from a tick until before another
  hold_back : (cores from until : ℕ) → Entry
  -- the job begins so many ticks into its ladder
  late : (ticks : ℕ) → Entry

abbrev pub kind_of : Entry → ℕ
kind_of (deadline ticks) = 1
kind_of (step time label) = 2
kind_of (edge from to) = 3
kind_of (block cores ticks) = 4
kind_of (hold_back cores from until) = 5
kind_of (late ticks) = 6

-- A number in two bytes, the lower one first. (From 65,536 on these are no bytes, so no file has such a number.)
abbrev pub two : ℕ → List ℕ
two n = n % 256 ∷ (n / 256 ∷ [])

abbrev pub body_of : Entry → List ℕ
body_of (deadline ticks) = two ticks
body_of (step time label) = two time ++ label
body_of (edge from to) = from ∷ (to ∷ [])
body_of (block cores ticks) = cores ∷ two ticks
body_of (hold_back cores from until) = cores ∷ (two from ++ two until)
body_of (late ticks) = two ticks

-- A record: the length of its body, its kind, its body.
abbrev pub encoded : ℕ → List ℕ → List ℕ
encoded kind body = two (length body) ++ (two kind ++ body)

-- A file: its records end to end.
abbrev pub file_of : List Entry → List ℕ
file_of [] = []
file_of (entry ∷ earlier) = file_of earlier ++ encoded (kind_of entry) (body_of entry)

-- Back from bytes: the number at a place,
abbrev pub number_at : List ℕ → ℕ → ℕ
number_at bytes place = slice_index bytes place + 256 * slice_index bytes (place + 1)

-- the kind and the body of the record at the front, and the bytes after it,
abbrev pub front_kind : List ℕ → ℕ
front_kind bytes = number_at bytes 2

abbrev pub front_body : List ℕ → List ℕ
front_body bytes = take (number_at bytes 0) (drop 4 bytes)

abbrev pub behind_front : List ℕ → List ℕ
behind_front bytes = drop (number_at bytes 0) (drop 4 bytes)

-- and what a body of a kind says.
abbrev pub entry_of : ℕ → List ℕ → Entry
entry_of kind body =
    if kind == 1 then deadline (number_at body 0)
    else if kind == 2 then step (number_at body 0) (drop 2 body)
    else if kind == 3 then edge (slice_index body 0) (slice_index body 1)
    else if kind == 4 then block (slice_index body 0) (number_at body 1)
    else if kind == 5 then hold_back (slice_index body 0) (number_at body 1) (number_at body 3)
    else late (number_at body 0)
