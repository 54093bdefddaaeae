-- The ends of a file's hold-back are numbers of two bytes, since its bytes are bytes.
use Rattle.std.proofs.Common.{ℕ, ◌+◌, ◌/◌, ◌<◌, List, [], ◌∷◌, ◌++◌, length, get_or, sym, subst, ⊎_elim, arith}
use Rattle.std.proofs.lemmas.Bool.{cases_lt}
use Rattle.std.proofs.lemmas.List.{get_or_append_left, get_or-append-add}
use Rattle.std.proofs.Math.ListN.{get_or-eq_default}
use Rattle.cores.specs.declared.ladder.Block.{Block}
use Rattle.planfile.specs.Cutting.{WholeOf}
use Rattle.planfile.specs.Files.{EndsFit, FileLaw, layers_of}
use Rattle.planfile.specs.Records.{Entry, deadline, step, edge, block, hold_back, late, body_of, encoded, file_of}
use Rattle.planfile.specs.Rules.{reading_of}
use Rattle.planfile.specs.declared.whole.Whole.{Whole}

-- some numbers are bytes
abbrev Small : List ℕ → Type 0
Small bytes = (i : ℕ) → get_or bytes i 0 < 256

earlier_small : (earlier later : List ℕ) → Small (earlier ++ later) → Small earlier
earlier_small earlier later small i = ⊎_elim (λ inside. subst (λ byte. byte < 256) (get_or_append_left earlier later 0 i inside) (small i))
    (λ outside. subst (λ byte. byte < 256) (sym (get_or-eq_default earlier 0 outside)) (omega arith)) (cases_lt i (length earlier))

later_small : (earlier later : List ℕ) → Small (earlier ++ later) → Small later
later_small earlier later small i = subst (λ byte. byte < 256) (get_or-append-add earlier later i 0) (small (length earlier + i))

-- a number whose upper byte is one
two_bytes : (n : ℕ) → n / 256 < 256 → n < 65536
two_bytes n small = omega (arith, small)

pub ends_fit : (entries : List Entry) → Small (file_of entries) → EndsFit (layers_of (reading_of entries))
ends_fit [] small = tt
ends_fit (deadline ticks ∷ earlier) small = ends_fit earlier (earlier_small (file_of earlier) _ small)
ends_fit (step time label ∷ earlier) small = ends_fit earlier (earlier_small (file_of earlier) _ small)
ends_fit (edge from to ∷ earlier) small = ends_fit earlier (earlier_small (file_of earlier) _ small)
ends_fit (block cores ticks ∷ earlier) small = ends_fit earlier (earlier_small (file_of earlier) _ small)
ends_fit (hold_back cores from until ∷ earlier) small =
    let here = later_small (file_of earlier) (encoded 5 (body_of (hold_back cores from until))) small in
    (two_bytes from (here 6), two_bytes until (here 8))
ends_fit (late ticks ∷ earlier) small = ends_fit earlier (earlier_small (file_of earlier) _ small)

-- and so are those of the layers that were read of an accepted file
pub ends_here : (places : ℕ) (file : List ℕ) (list : List Block) (whole : Whole) → WholeOf places file list whole → FileLaw places file → Small file → EndsFit whole.layers
ends_here places file list whole known law small =
    subst EndsFit (sym known.layers) (ends_fit known.entries (subst Small ((law.accepted known.entries).0 known.accepted).made.bytes small))
