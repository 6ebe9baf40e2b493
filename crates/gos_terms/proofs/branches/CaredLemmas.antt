-- The children that the branches of a fork are, one after another. At each handshake of its own part there is one of them.
use Rattle.std.specs.Prelude.{◌≡◌, ℕ, zero, suc, ◌+◌, List, [], ◌∷◌, ◌++◌, Contains, length}
use Rattle.std.proofs.Common.{refl, sym, ◌∙◌, ap, subst, arith, append_assoc, length-append}
use Rattle.gos_check.specs.declared.linear.Split.{Split}
use Rattle.gos_compile.specs.Wiring.{Types}
use Rattle.gos_terms.specs.wired.Wired.{Supplies}
use Rattle.gos_terms.specs.stages.Folding.{asked}
use Rattle.gos_terms.specs.stages.Nodes.{Cared}
use Rattle.gos_terms.specs.run_children.Forks.{Branch, branch_child}
use Rattle.gos_terms.specs.branches.Covers.{AreBranchChildren}

-- a list contains one thing at a place
same_place : {X : Type 0} (xs : List X) (x y : X) (one : Contains xs x) (other : Contains xs y) → one.0 ≡ other.0 → x ≡ y
same_place [] x y (k, small, at) other e = absurd (omega (arith, small))
same_place (z ∷ xs) x y (zero, small, at) (zero, low, is) e = sym at ∙ is
same_place (z ∷ xs) x y (zero, small, at) (suc l, low, is) e = absurd (omega (arith, e))
same_place (z ∷ xs) x y (suc k, small, at) (zero, low, is) e = absurd (omega (arith, e))
same_place (z ∷ xs) x y (suc k, small, at) (suc l, low, is) e =
    same_place xs x y (k, omega (arith, small), at) (l, omega (arith, low), is) (omega (arith, e))

longer : (before : List Branch) (b : Branch) → length (before ++ b ∷ []) ≡ suc (length before)
longer before b = let sum = length-append before (b ∷ []) in omega (arith, sum)

-- for each branch one that is cared for, which is the child that the branch is
module _ (types : Types) (i j : ℕ) (ss : List Split) (env : Supplies) (ns : List ℕ) (bs : List Branch)
    (cared : (before after : List Branch) (b : Branch) → bs ≡ before ++ b ∷ after → Cared)
    (is_its : (before after : List Branch) (b : Branch) (at : bs ≡ before ++ b ∷ after) → (cared before after b at).child ≡ branch_child types i j ss env ns before b) where
  pub onward : (before after : List Branch) (b : Branch) → bs ≡ before ++ b ∷ after → bs ≡ (before ++ b ∷ []) ++ after
  onward before after b at = at ∙ sym (append_assoc before (b ∷ []) after)

  abbrev pub cares : (before rest : List Branch) → bs ≡ before ++ rest → List Cared
  cares before [] at = []
  cares before (b ∷ after) at = cared before after b at ∷ cares (before ++ b ∷ []) after (onward before after b at)

  -- what holds of each
  pub each : (P : Cared → Type 0) → ((before after : List Branch) (b : Branch) (at : bs ≡ before ++ b ∷ after) → P (cared before after b at))
      → (before rest : List Branch) (at : bs ≡ before ++ rest) (x : Cared) → Contains (cares before rest at) x → P x
  each P holds before [] at x (k, small, is) = absurd (omega (arith, small))
  each P holds before (b ∷ after) at x (zero, small, is) = subst P is (holds before after b at)
  each P holds before (b ∷ after) at x (suc k, small, is) = each P holds (before ++ b ∷ []) after (onward before after b at) x (k, omega (arith, small), is)

  -- where it is asked
  shake_at : (before after : List Branch) (b : Branch) (at : bs ≡ before ++ b ∷ after) → asked (cared before after b at).child ≡ length before
  shake_at before after b at = ap asked (is_its before after b at)

  shake_of : (before rest : List Branch) (at : bs ≡ before ++ rest) (x : Cared) (has : Contains (cares before rest at) x)
      → asked x.child ≡ length before + has.0
  shake_of before [] at x (k, small, is) = absurd (omega (arith, small))
  shake_of before (b ∷ after) at x (zero, small, is) =
      let it : asked x.child ≡ length before = ap (λ (y : Cared). asked y.child) (sym is) ∙ shake_at before after b at in omega (arith, it)
  shake_of before (b ∷ after) at x (suc k, small, is) =
      let rest = shake_of (before ++ b ∷ []) after (onward before after b at) x (k, omega (arith, small), is) in
      let more = longer before b in omega (arith, rest, more)

  pub one_each : (x y : Cared) → Contains (cares [] bs refl) x → Contains (cares [] bs refl) y → asked x.child ≡ asked y.child → x ≡ y
  one_each x y one other e =
      let at_x = shake_of [] bs refl x one in
      let at_y = shake_of [] bs refl y other in
      same_place (cares [] bs refl) x y one other (omega (arith, at_x, at_y, e))

  pub are_children : (before rest : List Branch) (at : bs ≡ before ++ rest) → AreBranchChildren types i j ss env ns before rest (cares before rest at)
  are_children before [] at = tt
  are_children before (b ∷ after) at = (is_its before after b at, are_children (before ++ b ∷ []) after (onward before after b at))

  -- the one that runs a branch, and what is known of both
  module _ (Q : Branch → Cared → Type 0) (knows : (before after : List Branch) (b : Branch) (at : bs ≡ before ++ b ∷ after) → Q b (cared before after b at)) where
    pub record Runs (es : List Cared) (b : Branch) (h : ℕ) : Type 0 where
      pub one : Cared
      pub listed : Contains es one
      pub shake : asked one.child ≡ h
      pub known : Q b one

    found : (before rest : List Branch) (at : bs ≡ before ++ rest) (mid after : List Branch) (b : Branch) → rest ≡ mid ++ b ∷ after
        → Runs (cares before rest at) b (length before + length mid)
    found before [] at [] after b e = absurd (cc e)
    found before [] at (d ∷ mid) after b e = absurd (cc e)
    found before (c ∷ rest) at [] after b e =
        let it : c ≡ b = cc e in
        let shake = shake_at before rest c at in
        record {
          one = cared before rest c at;
          listed = (0, omega arith, refl);
          shake = omega (arith, shake);
          known = subst (λ (d : Branch). Q d (cared before rest c at)) it (knows before rest c at);
        }
    found before (c ∷ rest) at (d ∷ mid) after b e =
        let more : rest ≡ mid ++ b ∷ after = cc e in
        let it = found (before ++ c ∷ []) rest (onward before rest c at) mid after b more in
        let (k, small, is) = it.listed in
        let shake = it.shake in
        let long = longer before c in
        record { one = it.one; listed = (suc k, omega (arith, small), is); shake = omega (arith, shake, long); known = it.known }

    -- of all branches
    pub found_in : (before after : List Branch) (b : Branch) → bs ≡ before ++ b ∷ after → Runs (cares [] bs refl) b (length before)
    found_in before after b at =
        let zeros : 0 + length before ≡ length before = omega arith in
        subst (λ (h : ℕ). Runs (cares [] bs refl) b h) zeros (found [] bs refl before after b at)
