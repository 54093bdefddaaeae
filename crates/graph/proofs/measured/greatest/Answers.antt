use Rattle.std.proofs.Common.{sym, ◌∙◌, subst}
use Rattle.std.specs.Slice.Iter.{iter_rest, iter_steps}
use Rattle.std.proofs.lemmas.Iterator.{YieldsList}
use Rattle.std.proofs.lemmas.Iterator.Adapters.{option_map_id}
use Rattle.std.proofs.lemmas.Iterator.Consumers.{max_from_yields_List, YieldsList-at, YieldsList-from_copied, YieldsList-from_shown}
use Rattle.graph.proofs.measured.greatest.Goals as goal

pub returns : goal.returns
returns c =
    let lengths = subst (YieldsList iter_steps (λ y. y.now) c.iter.result) c.iter.ensures.rest
    (YieldsList-from_shown iter_steps (λ y. y.now) iter_rest (λ s t ends. ends.0) (λ s x t gives. gives) c.iter.result) in
    sym (option_map_id c.max.result) ∙ max_from_yields_List _ c.max.result c.max.ensures.ran (YieldsList-from_copied (YieldsList-at c.copied.ensures.source lengths))
