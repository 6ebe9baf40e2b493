-- Steps in their order: each net has what its cell shows from its turn on.
use Rattle.std.specs.Prelude.{◌≡◌, ◌≢◌, ℕ, ◌+◌, ◌<◌, ◌⊎◌, List, All, length, set, Some, slice_get}
use Rattle.std.proofs.Common.{arith, ap, sym, subst, inl, inr, ◌∙◌, get_or-set_same, get_or-set_other, below_more}
use Rattle.std.proofs.lemmas.Bool.{cases_order}
use Rattle.std.proofs.lemmas.List.Elements.{All-contains}
use Rattle.gos_netlist.specs.Nets.{Cell}
use Rattle.gos_netlist.specs.Settling.{Numbers, at, shown}
use Rattle.gos_netlist.specs.Seen.{function_of}
use Rattle.gos_netlist.proofs.SettlingLemmas.{same_shown}
use Rattle.gos_sim.specs.declared.program.Step.{Step}
use Rattle.gos_sim.specs.inner.Program.{HaveOneCell, IsStepWithin, Spares, SparesEarlier, reads}
use Rattle.gos_sim.proofs.PlaceLemmas.{all_at, same_element}

-- the steps before place k show what their cells do
abbrev pub AreShownBefore : List Step → ℕ → Numbers → Type 0
AreShownBefore steps k v =
    (j : ℕ) → j < k → (s : Step) → slice_get steps j ≡ Some s → at v s.net ≡ shown s.width (function_of s.gate) 0 0 (at v)

-- a step shows the same after a step that spares what it reads
still : (s t : Step) (v : Numbers) (x : ℕ) → Spares t (reads s)
    → shown s.width (function_of s.gate) 0 0 (at (set v t.net x)) ≡ shown s.width (function_of s.gate) 0 0 (at v)
still s t v x spares =
    same_shown s.width 0 0 (function_of s.gate) (at (set v t.net x)) (at v)
    (λ a read. get_or-set_other v t.net a x 0 (All-contains (λ b. b ≢ t.net) (reads s) a spares read))

-- one step more
pub shown_more : (steps : List Step) (v : Numbers) (k x : ℕ) (t : Step) → SparesEarlier steps → HaveOneCell steps → slice_get steps k ≡ Some t → All (IsStepWithin (length v)) steps
    → x ≡ shown t.width (function_of t.gate) 0 0 (at v) → AreShownBefore steps k v → AreShownBefore steps (k + 1) (set v t.net x)
shown_more steps v k x t spares one is all_within e before = below_more (λ j. (s : Step) → slice_get steps j ≡ Some s → at (set v t.net x) s.net ≡ shown s.width (function_of s.gate) 0 0 (at (set v t.net x))) k older newest
  where
    within : t.net < length v
    within = (all_at (IsStepWithin (length v)) steps k t all_within is).net

    older : (j : ℕ) → j < k → (s : Step) → slice_get steps j ≡ Some s → at (set v t.net x) s.net ≡ shown s.width (function_of s.gate) 0 0 (at (set v t.net x))
    older j below s at_j = by_net (cases_order s.net t.net)
      where
        spared : Spares t (reads s)
        spared = spares j k s t at_j is (omega (arith, below))

        other : s.net ≢ t.net → at (set v t.net x) s.net ≡ shown s.width (function_of s.gate) 0 0 (at (set v t.net x))
        other apart = get_or-set_other v t.net s.net x 0 apart ∙ (before j below s at_j ∙ sym (still s t v x spared))

        same : s.net ≡ t.net → at (set v t.net x) s.net ≡ shown s.width (function_of s.gate) 0 0 (at (set v t.net x))
        same net =
            subst (λ (n : ℕ). at (set v t.net x) n ≡ x) (sym net) (get_or-set_same v t.net x 0 within)
            ∙ (e ∙ (ap (λ (c : Cell). shown c.width c.gate 0 0 (at v)) (sym (one j k s t at_j is net)) ∙ sym (still s t v x spared)))

        by_net : (s.net ≡ t.net) ⊎ ((s.net < t.net) ⊎ (t.net < s.net)) → at (set v t.net x) s.net ≡ shown s.width (function_of s.gate) 0 0 (at (set v t.net x))
        by_net (inl net) = same net
        by_net (inr (inl less)) = other (λ net. omega (arith, less, net))
        by_net (inr (inr more)) = other (λ net. omega (arith, more, net))

    newest : (s : Step) → slice_get steps k ≡ Some s → at (set v t.net x) s.net ≡ shown s.width (function_of s.gate) 0 0 (at (set v t.net x))
    newest s at_k =
        let same : t ≡ s = same_element steps k t s is at_k in
        subst (λ (u : Step). at (set v t.net x) u.net ≡ shown u.width (function_of u.gate) 0 0 (at (set v t.net x))) same
        (get_or-set_same v t.net x 0 within ∙ (e ∙ sym (still t t v x (spares k k t t is is (omega arith)))))

-- a net that is no step's is kept
pub kept_by_step : (steps : List Step) (v : Numbers) (k n x : ℕ) (t : Step) → slice_get steps k ≡ Some t → All (λ s. s.net ≢ n) steps
    → at (set v t.net x) n ≡ at v n
kept_by_step steps v k n x t is others =
    get_or-set_other v t.net n x 0 (λ same. all_at (λ (s : Step). s.net ≢ n) steps k t others is (sym same))
