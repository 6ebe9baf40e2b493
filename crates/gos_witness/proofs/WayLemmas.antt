-- A way, step by step, and the line at its end.
use Rattle.std.proofs.Common.{◌≡◌, ℕ, zero, suc, List, [], ◌∷◌, ◌++◌, refl, sym, ap, subst, ◌∙◌, append_assoc, append-nil}
use Rattle.std.specs.Prelude.{IfOk, Result, Ok, Err}
use Rattle.gos_model.specs.Terms.{Term, Arr, App, Fst, Snd, Deref, Wait, Put}
use Rattle.gos_model.specs.Reach.{Rewrites}
use Rattle.gos_model.specs.Labels.{Port}
use Rattle.gos_programs.specs.contexts.Contexts.{Context, plug, plug_all}
use Rattle.gos_swaps.specs.doings.Doings.{Unfolding}
use Rattle.gos_swaps.specs.doings.Heads.{UnderAt}
use Rattle.gos_swaps.specs.doings.Sides.{way, path_through}
use Rattle.gos_swaps.specs.needed.Needed.{IsNeeded, IsOut}
use Rattle.gos_swaps.specs.proper.Proper.{PartsApart}
use Rattle.gos_swaps.proofs.doings.PlaceLemmas.{HeadHere}
use Rattle.gos_swaps.proofs.orders.OrderLemmas.{apart_through}
use Rattle.gos_witness.specs.declared.moves.Line.{Line}
use Rattle.gos_witness.specs.declared.moves.Line.TheVariants.{Unfold, Step, Label, Root}
use Rattle.gos_witness.specs.declared.needed.Turn.{Turn}
use Rattle.gos_witness.specs.declared.needed.Turn.TheVariants as turns
use Rattle.gos_witness.specs.declared.needed.Way.{Way}
use Rattle.gos_witness.specs.NodeLists.{Listed, seen}
use Rattle.gos_witness.specs.inner.Ends.{IsRest, IsChain, heads, innermost, IsOperand, GoesInto, EndsAtHead, EndsAtStep, EndsAtLabel, steps_of, IsTurn, IsHeadLine, AreOut, IsOnWay, OnlyAt, IsPlaced}
use Rattle.gos_witness.proofs.EndLemmas.{rest_here}

-- one context more

plug_more : (cs : List Context) (c : Context) (m : Term) → plug_all (cs ++ c ∷ []) m ≡ plug_all cs (plug c m)
plug_more [] c m = refl
plug_more (d ∷ cs) c m = ap (plug d) (plug_more cs c m)

path_more : (cs : List Context) (path : List ℕ) → path_through cs path ≡ path_through cs [] ++ path
path_more [] path = refl
path_more (c ∷ cs) path = ap (λ (z : List ℕ). way c ++ z) (path_more cs path) ∙ sym (append_assoc (way c) (path_through cs []) path)

path_with : (cs : List Context) (c : Context) → path_through (cs ++ c ∷ []) [] ≡ path_through cs [] ++ way c
path_with [] c = append-nil (way c)
path_with (d ∷ cs) c = ap (λ (z : List ℕ). way d ++ z) (path_with cs c) ∙ sym (append_assoc (way d) (path_through cs []) (way c))

out_more : (o : Port) (cs : List Context) (c : Context) → AreOut o cs → IsOut o c → AreOut o (cs ++ c ∷ [])
out_more o [] c out one = (one, tt)
out_more o (d ∷ cs) c out one = (out.0, out_more o cs c out.1 one)

pub way_goes : (l : Listed) (o : Port) (steps more : List ℕ) (m x : Term) (part : ℕ) → IsOnWay o steps m x → GoesInto l o x more part → IsOnWay o (steps ++ more) m (seen l part)
way_goes l o steps more m x part on (c, ex, at, out, alive) = record {
  around = on.around ++ c ∷ [];
  whole = on.whole ∙ (ap (plug_all on.around) ex ∙ sym (plug_more on.around c (seen l part)));
  path = (λ i. on.path i ++ sym at i) ∙ sym (path_with on.around c);
  out = out_more o on.around c on.out out;
  alive = alive;
}

-- at the end

pub placed_step : (o : Port) (steps : List ℕ) (m x : Term) → IsOnWay o steps m x → EndsAtStep x → IsPlaced o m (Step steps)
placed_step o steps m x on ends = record { around = on.around; here = x; whole = on.whole; out = on.out; alive = on.alive; ends = (on.path, ends) }

pub placed_label : (o : Port) (steps : List ℕ) (m x : Term) → IsOnWay o steps m x → EndsAtLabel x → IsPlaced o m (Label steps)
placed_label o steps m x on ends = record { around = on.around; here = x; whole = on.whole; out = on.out; alive = on.alive; ends = (on.path, ends) }

-- The innermost head is the only one that may unfold.

under_path : (q : List ℕ) (m t : Term) → UnderAt q Rewrites m t → 0 ∷ q ≡ heads m
under_path [] (App m n) t (a, b, e, et) = ap (λ (z : Term). 0 ∷ heads z) (sym e)
under_path [] (Fst m) t (n, e) = ap (λ (z : Term). 0 ∷ heads z) (sym e)
under_path [] (Snd m) t (n, e) = ap (λ (z : Term). 0 ∷ heads z) (sym e)
under_path (zero ∷ q) (App m n) t (m', e, h) = ap (λ (z : List ℕ). 0 ∷ z) (under_path q m m' h)
under_path (zero ∷ q) (Fst m) t (m', e, h) = ap (λ (z : List ℕ). 0 ∷ z) (under_path q m m' h)
under_path (zero ∷ q) (Snd m) t (m', e, h) = ap (λ (z : List ℕ). 0 ∷ z) (under_path q m m' h)
under_path [] m t h = absurd h
under_path (i ∷ q) m t h = absurd h

chain_path : (q : List ℕ) (m t : Term) → IsChain m → HeadHere Rewrites q m t → q ≡ innermost m
chain_path [] (App m n) t chain (a, b, e, et) = ap heads (sym e)
chain_path [] (Fst m) t chain (n, e) = ap heads (sym e)
chain_path [] (Snd m) t chain (n, e) = ap heads (sym e)
chain_path (zero ∷ q) (App m n) t chain (m', e, h) = under_path q m m' h
chain_path (zero ∷ q) (Fst m) t chain (m', e, h) = under_path q m m' h
chain_path (zero ∷ q) (Snd m) t chain (m', e, h) = under_path q m m' h
chain_path (suc i ∷ q) (App m n) t chain h = absurd h
chain_path (suc i ∷ q) (Fst m) t chain h = absurd h
chain_path (suc i ∷ q) (Snd m) t chain h = absurd h
chain_path q m t chain h = absurd chain

heads_chain : (m : Term) → IsChain m → heads m ≡ 0 ∷ innermost m
heads_chain (App m n) chain = refl
heads_chain (Fst m) chain = refl
heads_chain (Snd m) chain = refl
heads_chain m chain = absurd chain

operand_path : (q : List ℕ) (x m t : Term) → IsOperand x m → IsChain m → HeadHere Rewrites q x t → q ≡ 0 ∷ innermost m
operand_path [] (Deref y) m t is chain h = absurd h
operand_path [] (Put y k) m t is chain h = absurd h
operand_path (zero ∷ q) (Deref y) m t is chain (y', e, h) = under_path q y y' h ∙ (ap heads is ∙ heads_chain m chain)
operand_path (zero ∷ q) (Put y k) m t is chain (y', e, h) = under_path q y y' h ∙ (ap heads is ∙ heads_chain m chain)
operand_path (suc i ∷ q) (Deref y) m t is chain h = absurd h
operand_path (suc i ∷ q) (Put y k) m t is chain h = absurd h
operand_path q x m t is chain h = absurd is

only_at : (path : List ℕ) (x : Term) → IsRest x → ((q : List ℕ) (t : Term) → HeadHere Rewrites q x t → q ≡ path) → OnlyAt path x
only_at path x rests f q t h = f q t (rest_here [] Unfolding [] [] q x t rests (h, refl)).0

-- heads leave nothing aside

chain_needed : (o : Port) (path : List ℕ) (m : Term) → IsChain m → IsNeeded o path m
chain_needed o [] (App m n) chain = tt
chain_needed o (zero ∷ path) (App m n) chain = tt
chain_needed o (suc zero ∷ path) (App m n) chain = tt
chain_needed o (suc (suc i) ∷ path) (App m n) chain = tt
chain_needed o [] (Fst m) chain = tt
chain_needed o (zero ∷ path) (Fst m) chain = tt
chain_needed o (suc zero ∷ path) (Fst m) chain = tt
chain_needed o (suc (suc i) ∷ path) (Fst m) chain = tt
chain_needed o [] (Snd m) chain = tt
chain_needed o (zero ∷ path) (Snd m) chain = tt
chain_needed o (suc zero ∷ path) (Snd m) chain = tt
chain_needed o (suc (suc i) ∷ path) (Snd m) chain = tt
chain_needed o path m chain = absurd chain

-- the path goes on down a function part, or ends
abbrev IsDown : List ℕ → Type 0
IsDown [] = Unit {0}
IsDown (zero ∷ path) = Unit {0}
IsDown (suc i ∷ path) = ⊥

heads_down : (m : Term) → IsDown (heads m)
heads_down (App m n) = tt
heads_down (Fst m) = tt
heads_down (Snd m) = tt
heads_down m = tt

innermost_down : (m : Term) → IsDown (innermost m)
innermost_down (App m n) = heads_down m
innermost_down (Fst m) = heads_down m
innermost_down (Snd m) = heads_down m
innermost_down m = tt

read_needed : (o : Port) (path : List ℕ) (m : Term) → IsDown path → IsNeeded o (zero ∷ path) (Deref m)
read_needed o [] (App (Arr l) n) down = tt
read_needed o [] (App (Wait x s) n) down = tt
read_needed o [] m down = tt
read_needed o (zero ∷ path) (App (Arr l) n) down = tt
read_needed o (zero ∷ path) (App (Wait x s) n) down = tt
read_needed o (zero ∷ path) m down = tt
read_needed o (suc i ∷ path) m down = absurd down

write_needed : (o : Port) (path : List ℕ) (m : Term) (k : ℕ) → IsDown path → IsNeeded o (zero ∷ path) (Put m k)
write_needed o [] (App (Arr l) n) k down = tt
write_needed o [] (App (Wait x s) n) k down = tt
write_needed o [] m k down = tt
write_needed o (zero ∷ path) (App (Arr l) n) k down = tt
write_needed o (zero ∷ path) (App (Wait x s) n) k down = tt
write_needed o (zero ∷ path) m k down = tt
write_needed o (suc i ∷ path) m k down = absurd down

operand_needed : (o : Port) (x m : Term) → IsOperand x m → IsNeeded o (0 ∷ innermost m) x
operand_needed o (Deref y) m is = read_needed o (innermost m) y (innermost_down m)
operand_needed o (Put y k) m is = write_needed o (innermost m) y k (innermost_down m)
operand_needed o x m is = absurd is

-- the line of the unfolding

pub placed_head : (o : Port) (steps : List ℕ) (m x h : Term) (line : Line) → IsOnWay o steps m x → EndsAtHead x → IsChain x → x ≡ h → IsHeadLine steps (innermost h) line
    → IsPlaced o m line
placed_head o steps m x h (Unfold path) on ends chain is at = record {
  around = on.around;
  here = x;
  whole = on.whole;
  out = on.out;
  alive = on.alive;
  ends = (
    innermost x,
    at ∙ ((λ i. on.path i ++ innermost (sym is i)) ∙ sym (path_more on.around (innermost x))),
    ends,
    only_at (innermost x) x ends.0 (λ q t here. chain_path q x t chain here),
    chain_needed o (innermost x) x chain,
  );
}
placed_head o steps m x h (Step path) on ends chain is at = absurd at
placed_head o steps m x h (Label path) on ends chain is at = absurd at
placed_head o steps m x h Root on ends chain is at = absurd at

pub placed_operand : (o : Port) (steps : List ℕ) (m x h : Term) (line : Line) → IsOnWay o steps m x → EndsAtHead x → IsChain h → IsOperand x h
    → IsHeadLine (steps ++ 0 ∷ []) (innermost h) line → IsPlaced o m line
placed_operand o steps m x h (Unfold path) on ends chain is at = record {
  around = on.around;
  here = x;
  whole = on.whole;
  out = on.out;
  alive = on.alive;
  ends = (
    0 ∷ innermost h,
    at ∙ (append_assoc steps (0 ∷ []) (innermost h)
        ∙ (ap (λ (z : List ℕ). z ++ 0 ∷ innermost h) on.path ∙ sym (path_more on.around (0 ∷ innermost h)))),
    ends,
    only_at (0 ∷ innermost h) x ends.0 (λ q t here. operand_path q x h t is chain here),
    operand_needed o x h is,
  );
}
placed_operand o steps m x h (Step path) on ends chain is at = absurd at
placed_operand o steps m x h (Label path) on ends chain is at = absurd at
placed_operand o steps m x h Root on ends chain is at = absurd at

-- the parts of what a way leads to are apart
pub apart_there : (o : Port) (steps : List ℕ) (m x : Term) → IsOnWay o steps m x → PartsApart m → PartsApart x
apart_there o steps m x on apart = apart_through on.around x (subst PartsApart on.whole apart)

pub ok_map : {A E : Type 0} (P Q : A → Type 0) (r : Result A E) → ((x : A) → P x → Q x) → IfOk r P → IfOk r Q
ok_map P Q (Ok x) f h = f x h
ok_map P Q (Err e) f h = tt

-- The way goes on by a turn, or ends by it.
module _ (l : Listed) (o : Port) (steps : List ℕ) (m x : Term) (r : Turn) (on : IsOnWay o steps m x) (at : IsTurn l o x r) where
  pub turn_down : (w : Way) (part : ℕ) (more : List ℕ) → r ≡ turns.Down w part → more ≡ steps ++ steps_of w → IsOnWay o more m (seen l part)
  turn_down w part more is longer =
      subst (λ (z : List ℕ). IsOnWay o z m (seen l part)) (sym longer) (way_goes l o steps (steps_of w) m x part on (subst (IsTurn l o x) is at))

  pub turn_head : (head : ℕ) (line : Line) → r ≡ turns.Head head → IsHeadLine steps (innermost (seen l head)) line → IsPlaced o m line
  turn_head head line is h = let ends : IsTurn l o x (turns.Head head) = subst (IsTurn l o x) is at in placed_head o steps m x (seen l head) line on ends.0 ends.1 ends.2 h

  pub turn_operand : (head : ℕ) (line : Line) (more : List ℕ) → r ≡ turns.Operand head → more ≡ steps ++ 0 ∷ [] → IsHeadLine more (innermost (seen l head)) line
      → IsPlaced o m line
  turn_operand head line more is longer h =
      let ends : IsTurn l o x (turns.Operand head) = subst (IsTurn l o x) is at in
      placed_operand o steps m x (seen l head) line on ends.0 ends.1 ends.2 (subst (λ (z : List ℕ). IsHeadLine z (innermost (seen l head)) line) longer h)

  pub turn_step : r ≡ turns.Step → IsPlaced o m (Step steps)
  turn_step is = placed_step o steps m x on (subst (IsTurn l o x) is at)

  pub turn_label : r ≡ turns.Label → IsPlaced o m (Label steps)
  turn_label is = placed_label o steps m x on (subst (IsTurn l o x) is at)
