use Rattle.std.proofs.Common.{nat_lt, sym, ◌∙◌, rules}
use Rattle.std.proofs.lemmas.Iterator.Adapters.{option_map_id}
use Rattle.std.proofs.lemmas.Iterator.Consumers.{YieldsList-from_first}
use Rattle.std.proofs.lemmas.Iterator.Search.{find_from_yields_List}
use Rattle.graph.specs.Sets.{members, steps_left}
use Rattle.dispatch.proofs.round.first_above.Goals as goal

pub returns : goal.returns
returns c =
    sym (option_map_id c.find.result)
    ∙ find_from_yields_List (λ step. nat_lt c.args.last step) c.find.new.self _ c.find.result c.find.ensures.ran
    (YieldsList-from_first (λ x. x) steps_left (members c.args.ready) c.into_iter.ensures.into_iter_gives)
    (λ x b q called. search rules)
