use Rattle.std.proofs.Common.{◌≡◌, ℕ, ◌≤◌, List, ◌++◌, take, length, Some, None, Option, IfSome, ap, ◌∙◌, arith, rules}
use Rattle.std.proofs.lemmas.List.{take-append-le}
use lib.Seq.{take-take}
use Rattle.certify.proofs.read_input.Goals as goal

-- what filled a memory of so many places, and was cut off behind it
first_of : (known : Option (List ℕ)) (len size filled : ℕ) (memory after file : List ℕ) {limit cut : ℕ} → size ≡ limit → filled ≤ len → filled ≤ length memory
    → IfSome known (λ bytes. take filled memory ≡ take size bytes) → file ≡ take cut (take len (memory ++ after)) → cut ≡ filled → IfSome known (λ bytes. file ≡ take limit bytes)
first_of None len size filled memory after file most few within all is behind = tt
first_of (Some bytes) len size filled memory after file most few within all is behind =
    is ∙ ap (λ n. take n (take len (memory ++ after))) behind ∙ take-take filled len (memory ++ after) few ∙ take-append-le filled memory after within ∙ all ∙ ap (λ n. take n bytes) most

pub returns-clause-first : goal.returns-clause-first
returns-clause-first g c =
    let within = c.in_ok-filled.ensures.within in
    first_of (g.R.Read.remaining c.args.input.now) c.in_ok-file.file.len (length c.deref_mut.result.now) c.in_ok-filled.filled c.fill.new.memory _ c.truncate.new.self.items
    (c.deref_mut.ensures.len ∙ c.in_ok-file.ensures.len) (omega (arith, within, c.fill.auto.memory, c.deref_mut.ensures.len)) within c.in_ok-filled.ensures.first c.truncate.ensures.items
    (search rules)
