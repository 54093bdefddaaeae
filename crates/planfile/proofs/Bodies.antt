-- What a body says is laid out in the same bytes again.
use Rattle.std.proofs.Common.{◌≡◌, ℕ, ◌+◌, ◌*◌, ◌<◌, ◌≤◌, List, [], ◌∷◌, ◌++◌, length, get_or, drop, sym, refl, ap, ◌∙◌, subst, ap₂, arith}
use Rattle.planfile.specs.Cutting.{Says}
use Rattle.planfile.specs.Records.{Entry, deadline, step, edge, block, hold_back, late, two, number_at}

-- two bytes and the number that they make
two_again : (low high : ℕ) → low < 256 → two (low + 256 * high) ≡ low ∷ (high ∷ [])
two_again low high small = ap₂ (λ a b. a ∷ (b ∷ [])) (omega arith) (omega arith)

two_whole : (bytes : List ℕ) → length bytes ≡ 2 → get_or bytes 0 0 < 256 → two (number_at bytes 0) ≡ bytes
two_whole [] few low = absurd (omega arith)
two_whole (a ∷ []) few low = absurd (omega arith)
two_whole (a ∷ (b ∷ [])) few low = two_again a b low
two_whole (a ∷ (b ∷ (c ∷ more))) few low = absurd (omega arith)

module _ (kind : ℕ) (body : List ℕ) where
  -- under the kind that it is
  named : (n : ℕ) {entry : Entry} → kind ≡ n → Says n body entry → Says kind body entry
  named n {entry} is says = subst (λ k. Says k body entry) (sym is) says

  pub says_deadline : kind ≡ 1 → length body ≡ 2 → get_or body 0 0 < 256 → (ticks : ℕ) → ticks ≡ number_at body 0 → Says kind body (deadline ticks)
  says_deadline is size small ticks read = named 1 is (record { read = ap deadline read; kind_again = refl; body_again = ap two read ∙ two_whole body size small })

  pub says_step : kind ≡ 2 → 2 ≤ length body → get_or body 0 0 < 256 → (time : ℕ) (label : List ℕ) → time ≡ number_at body 0 → label ≡ drop 2 body → Says kind body (step time label)
  says_step is size small time label read rest =
      named 2 is (record { read = ap₂ step read rest; kind_again = refl; body_again = ap₂ (λ t l. two t ++ l) read rest ∙ whole body size small }) where
        whole : (bytes : List ℕ) → 2 ≤ length bytes → get_or bytes 0 0 < 256 → two (number_at bytes 0) ++ drop 2 bytes ≡ bytes
        whole [] few low = absurd (omega arith)
        whole (a ∷ []) few low = absurd (omega arith)
        whole (a ∷ (b ∷ more)) few low = ap (λ l. l ++ more) (two_again a b low)

  pub says_edge : kind ≡ 3 → length body ≡ 2 → (from to : ℕ) → from ≡ get_or body 0 0 → to ≡ get_or body 1 0 → Says kind body (edge from to)
  says_edge is size from to first second =
      named 3 is (record { read = ap₂ edge first second; kind_again = refl; body_again = ap₂ (λ f t. f ∷ (t ∷ [])) first second ∙ whole body size }) where
        whole : (bytes : List ℕ) → length bytes ≡ 2 → get_or bytes 0 0 ∷ (get_or bytes 1 0 ∷ []) ≡ bytes
        whole [] few = absurd (omega arith)
        whole (a ∷ []) few = absurd (omega arith)
        whole (a ∷ (b ∷ [])) few = refl
        whole (a ∷ (b ∷ (c ∷ more))) few = absurd (omega arith)

  pub says_block : kind ≡ 4 → length body ≡ 3 → get_or body 1 0 < 256 → (cores ticks : ℕ) → cores ≡ get_or body 0 0 → ticks ≡ number_at body 1 → Says kind body (block cores ticks)
  says_block is size small cores ticks first read =
      named 4 is (record { read = ap₂ block first read; kind_again = refl; body_again = ap₂ (λ c t. c ∷ two t) first read ∙ whole body size small }) where
        whole : (bytes : List ℕ) → length bytes ≡ 3 → get_or bytes 1 0 < 256 → get_or bytes 0 0 ∷ two (number_at bytes 1) ≡ bytes
        whole [] few low = absurd (omega arith)
        whole (a ∷ []) few low = absurd (omega arith)
        whole (a ∷ (b ∷ [])) few low = absurd (omega arith)
        whole (a ∷ (b ∷ (c ∷ []))) few low = ap (λ l. a ∷ l) (two_again b c low)
        whole (a ∷ (b ∷ (c ∷ (d ∷ more)))) few low = absurd (omega arith)

  pub says_hold_back : kind ≡ 5 → length body ≡ 5 → get_or body 1 0 < 256 → get_or body 3 0 < 256 → (cores from until : ℕ)
      → cores ≡ get_or body 0 0 → from ≡ number_at body 1 → until ≡ number_at body 3 → Says kind body (hold_back cores from until)
  says_hold_back is size small small' cores from until first second third =
      named 5 is (record {
        read = ap₂ (λ c f. hold_back c f until) first second ∙ ap (hold_back (get_or body 0 0) (number_at body 1)) third;
        kind_again = refl;
        body_again = ap₂ (λ c f. c ∷ (two f ++ two until)) first second ∙ ap (λ u. get_or body 0 0 ∷ (two (number_at body 1) ++ two u)) third ∙ whole body size small small';
      }) where
        whole : (bytes : List ℕ) → length bytes ≡ 5 → get_or bytes 1 0 < 256 → get_or bytes 3 0 < 256 → get_or bytes 0 0 ∷ (two (number_at bytes 1) ++ two (number_at bytes 3)) ≡ bytes
        whole [] few low low' = absurd (omega arith)
        whole (a ∷ []) few low low' = absurd (omega arith)
        whole (a ∷ (b ∷ [])) few low low' = absurd (omega arith)
        whole (a ∷ (b ∷ (c ∷ []))) few low low' = absurd (omega arith)
        whole (a ∷ (b ∷ (c ∷ (d ∷ [])))) few low low' = absurd (omega arith)
        whole (a ∷ (b ∷ (c ∷ (d ∷ (e ∷ []))))) few low low' = ap₂ (λ l r. a ∷ (l ++ r)) (two_again b c low) (two_again d e low')
        whole (a ∷ (b ∷ (c ∷ (d ∷ (e ∷ (f ∷ more)))))) few low low' = absurd (omega arith)

  pub says_late : kind ≡ 6 → length body ≡ 2 → get_or body 0 0 < 256 → (ticks : ℕ) → ticks ≡ number_at body 0 → Says kind body (late ticks)
  says_late is size small ticks read = named 6 is (record { read = ap late read; kind_again = refl; body_again = ap two read ∙ two_whole body size small })
