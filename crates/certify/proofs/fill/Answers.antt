use Rattle.std.proofs.Common.{◌≡◌, ℕ, ◌+◌, ◌≤◌, List, ◌++◌, length, take, rules, ap, sym, ◌∙◌, subst, length-take-le}
use Rattle.std.proofs.lemmas.List.{take-append-le}
use Rattle.std.proofs.Math.Seq.{take-append-add}
use Rattle.std.proofs.KnownBytes.{Consumes-trans}
use Rattle.std.specs.Io.KnownBytes.{Consumes}
use Rattle.certify.proofs.fill.Goals as goal

-- what came behind the filled front makes it longer
longer : (filled count : ℕ) {next : ℕ} (memory part after : List ℕ) → filled ≤ length memory → count ≤ length part → filled + count ≡ next
    → take filled memory ++ take count part ≡ take next (take filled memory ++ (part ++ after))
longer filled count memory part after within fits is =
    ap (λ l. take filled memory ++ l) (sym (take-append-le count part after fits)) ∙ sym (take-append-add (take filled memory) (part ++ after) count)
    ∙ ap (λ n. take (n + count) (take filled memory ++ (part ++ after))) (length-take-le filled memory within) ∙ ap (λ n. take n (take filled memory ++ (part ++ after))) is

pub loop-filled-preserved : goal.loop-filled-preserved
loop-filled-preserved g c = (
  search rules,
  search rules,
  subst (Consumes _ _)
      (longer c.loop-filled.filled c.in_ok-count.count c.loop-filled.memory c.read.new.buf _ c.loop-filled.invariant.1 c.in_ok-count.ensures.bound.0 (search rules))
      (Consumes-trans _ _ _ _ _ c.loop-filled.invariant.2 c.in_ok-count.ensures.bytes.0),
)
