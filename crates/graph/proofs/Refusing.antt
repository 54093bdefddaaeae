-- When the calls of a draft refuse, and what they answer and leave then.
use Rattle.std.proofs.Common.{◌≡◌, ℕ, ◌<◌, true, false, cond, ◌&&◌, ltb, List, length, Some, None, Ok, Err, Option, sym, ap, ◌∙◌}
use Rattle.std.proofs.lemmas.Bool.{cond-true, cond-false, lt-ltb, and_from}
use Rattle.graph.specs.Drafts.{Content, listed, edge_refusal, answered, unless}
use Rattle.graph.specs.declared.edge.Edge.{Edge}
use Rattle.graph.specs.declared.refusal.Refusal.{Refusal}
use Rattle.graph.specs.declared.refusal.Refusal.TheVariants.{EdgeTwice}

module _ {A B : Type 0} (refusal : Option Refusal) (value : A) (kept changed : B) where
  pub refused : (cause : Refusal) → refusal ≡ Some cause → (Err cause ≡ answered refusal value) × (kept ≡ unless refusal kept changed)
  refused cause is = (sym (ap (λ r. answered r value) is), sym (ap (λ r. unless r kept changed) is))

  pub accepted : refusal ≡ None → (Ok value ≡ answered refusal value) × (changed ≡ unless refusal kept changed)
  accepted is = (sym (ap (λ r. answered r value) is), sym (ap (λ r. unless r kept changed) is))

pub same_content : {d d' : ℕ} {t t' : List ℕ} {e e' : List Edge} → d ≡ d' → t ≡ t' → e ≡ e' → ◌≡◌ {A = Content} (record { deadline = d; times = t; edges = e }) (record { deadline = d'; times = t'; edges = e' })
same_content p q r = λ i. record { deadline = p i; times = q i; edges = r i }

module _ (held : Content) (from to : ℕ) where
  rising : from < to → to < length held.times → edge_refusal held from to ≡ cond (listed from to held.edges) (Some EdgeTwice) None
  rising rises there =
      cond-true (ltb from to && ltb to (length held.times)) _ _
      (and_from (ltb from to) (ltb to (length held.times)) (lt-ltb from to rises) (lt-ltb to (length held.times) there))

  pub edge_twice : from < to → to < length held.times → listed from to held.edges ≡ true → edge_refusal held from to ≡ Some EdgeTwice
  edge_twice rises there again = rising rises there ∙ cond-true (listed from to held.edges) _ _ again

  pub edge_new : from < to → to < length held.times → listed from to held.edges ≡ false → edge_refusal held from to ≡ None
  edge_new rises there new = rising rises there ∙ cond-false (listed from to held.edges) _ _ new
