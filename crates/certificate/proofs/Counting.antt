-- The ticks of each width, and the ticks that reach each level.
use Rattle.std.proofs.Common.{◌≡◌, ℕ, zero, suc, ◌+◌, ◌-◌, ◌<◌, ◌≤◌, Bool, true, false, eqb, leb, List, length, get_or, set, sym, refl, ap, ◌∙◌, ⊎_elim, arith, get_or-set_other, get_or-set_same}
use Rattle.std.proofs.lemmas.Bool.{cases_eq, cases_order, eq-eqb, ne_eqb, le-leb, lt-leb}
use Rattle.certificate.specs.Marking.{one_if, total}
use Rattle.certificate.specs.Widths.{exactly}
use Rattle.certificate.proofs.Heights.{reaching}
use Rattle.certificate.proofs.Totals.{total_push, total_few}

one_if_few : (test : Bool) → one_if test ≤ 1
one_if_few true = omega arith
one_if_few false = omega arith

one_level : (width level : ℕ) → one_if (leb level width) ≡ one_if (eqb width level) + one_if (leb (suc level) width)
one_level width level =
    ⊎_elim
    (λ same. omega (arith, ap one_if (eq-eqb width level same), ap one_if (le-leb level width (omega arith)), ap one_if (lt-leb (suc level) width (omega arith))))
    (⊎_elim
    (λ under. omega (arith, ap one_if (ne_eqb width level (λ same. omega arith)), ap one_if (lt-leb level width under), ap one_if (lt-leb (suc level) width (omega arith))))
    (λ over. omega (arith, ap one_if (ne_eqb width level (λ same. omega arith)), ap one_if (le-leb level width (omega arith)), ap one_if (le-leb (suc level) width over))))
    (cases_order width level)

module _ (width : ℕ → ℕ) (first : ℕ) where
  -- one tick more
  pub exactly_more : (tick cores : ℕ) → first ≤ tick → exactly width first (tick + 1 - first) cores ≡ exactly width first (tick - first) cores + one_if (eqb (width tick) cores)
  exactly_more tick cores from =
      let quantity : ℕ → ℕ = λ t. one_if (eqb (width t) cores) in
      let longer : tick + 1 - first ≡ suc (tick - first) = omega arith in
      let last : first + (tick - first) ≡ tick = omega arith in
      omega (arith, ap (total quantity first) longer, total_push quantity first (tick - first), ap quantity last)

  -- counting one tick more in a list of counts
  pub counted_more : (counts : List ℕ) (tick at cores : ℕ) → first ≤ tick → at ≡ width tick → at < length counts → get_or counts cores 0 ≡ exactly width first (tick - first) cores → get_or (set counts at (get_or counts at 0 + 1)) cores 0 ≡ exactly width first (tick + 1 - first) cores
  counted_more counts tick at cores from is within so_far =
      let more = exactly_more tick cores from in
      let raised : ℕ = get_or counts at 0 + 1 in
      ⊎_elim
      (λ same.
      omega (
        arith,
        ap (λ k. get_or (set counts at raised) k 0) same,
        get_or-set_same counts at raised 0 within,
        ap (λ k. get_or counts k 0) same,
        ap one_if (eq-eqb (width tick) cores (sym (same ∙ is))),
      ))
      (λ other.
      omega (
        arith,
        get_or-set_other counts at cores raised 0 other,
        ap one_if (ne_eqb (width tick) cores (λ same. other (sym (is ∙ same)))),
      ))
      (cases_eq cores at)

  -- no count is above the number of ticks
  pub exactly_few : (count cores : ℕ) → exactly width first count cores ≤ count
  exactly_few count cores = total_few _ first count (λ tick. one_if_few (eqb (width tick) cores))

module _ (width : ℕ → ℕ) where
  -- all ticks reach level 0, and those that reach a level but not the next have just its width
  pub reaching_all : (first count : ℕ) → reaching width first count 0 ≡ count
  reaching_all first zero = refl
  reaching_all first (suc count) = omega (arith, ap one_if (le-leb 0 (width first) (omega arith)), reaching_all (suc first) count)

  pub reaching_next : (first count level : ℕ) → reaching width first count level ≡ exactly width first count level + reaching width first count (suc level)
  reaching_next first zero level = refl
  reaching_next first (suc count) level = omega (arith, one_level (width first) level, reaching_next (suc first) count level)
