use Rattle.std.proofs.Common.{◌≡◌, ℕ, length, Some, None, sym, refl, ap, ◌∙◌, ⊎_elim, arith}
use Rattle.std.specs.Option.{unwrap_or}
use Rattle.fixed.specs.Values.{values}
use Rattle.graph.specs.Drafts.{content, Lacks}
use Rattle.graph.specs.Graphs.{sets_of}
use Rattle.graph.specs.declared.draft.Draft.{Draft}
use Rattle.graph.proofs.Adding.{has_is_listed}
use Rattle.graph.proofs.DraftEdges.{draft_rising, direct_by_list}
use Rattle.graph.proofs.EdgeLists.{refused_by_edges, finish_law}
use Rattle.graph.proofs.GraphLists.{length_times}
use Rattle.graph.proofs.draft.Draft.finish.Goals as goal

-- a draft with a deadline and a step lacks nothing
whole : (draft : Draft) (deadline : ℕ) → draft.deadline ≡ Some deadline → (length (values draft.graph.steps) ≡ 0 → ⊥) → Lacks (content draft) → ⊥
whole draft deadline is steps lacks =
    ⊎_elim
    (λ none. omega (arith, (draft.ranged deadline is).0, none, ap (λ d. unwrap_or d 0) is))
    (λ none. steps (omega (arith, length_times (values draft.graph.steps), ap length none)))
    lacks

pub invariant_of-result : goal.invariant_of-result
invariant_of-result c =
    let draft = c.args.self.now in
    let range = draft.ranged c.in-Some.deadline c.in-Some.is in
    record {
      due = (λ none. absurd (omega arith), λ some. range);
      direct = direct_by_list draft (sym c.first_implied.ensures ∙ c.in-None.is);
    }

pub returns-in-Some-first_implied-clause-law : goal.returns-in-Some-first_implied-clause-law
returns-in-Some-first_implied-clause-law c = finish_law (content c.args.self.now) (draft_rising c.args.self.now)

pub returns-in-None-clause-answer : goal.returns-in-None-clause-answer
returns-in-None-clause-answer c =
    let draft = c.args.self.now in
    let none = sym c.first_implied.ensures ∙ c.in-None.is in (
      refused_by_edges (content draft) (whole draft c.in-Some.deadline c.in-Some.is (λ none. omega arith)) None none,
      record {
        deadline = ap (λ d. unwrap_or d 0) (sym c.in-Some.is);
        times = refl;
        edges = λ from to. has_is_listed (sets_of (values draft.graph.steps)) (values draft.edges) from to draft.listed draft.complete;
      },
    )

pub returns-in-None-clause-law : goal.returns-in-None-clause-law
returns-in-None-clause-law c = finish_law (content c.args.self.now) (draft_rising c.args.self.now)
