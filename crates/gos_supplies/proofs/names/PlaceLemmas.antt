-- Token states said place by place, of a plan whose first part alone has phases.
use Rattle.std.specs.Prelude.{◌≡◌, ℕ, suc, nat_eq, ◌&&◌, ◌||◌, Bool, true, false, Option, None, if◌then◌else◌}
use Rattle.std.proofs.Common.{refl, ◌∙◌, ap, arith}
use Rattle.gos_types.specs.Events.{Direction}
use Rattle.gos_plan.specs.Firing.{Phase, Rest, State}
use Rattle.gos_plan.specs.Plans.{End, same_end}
use Rattle.gos_plan.specs.Tokens.{Tokens, same_way, with_place, with_state}

-- what lies in each place
abbrev pub Places : Type 0
Places = Direction → End → Option ℕ

abbrev pub nowhere : Places
nowhere way e = None

abbrev pub placed_at : Direction → End → Option ℕ → Places → Places
placed_at way d held f w e = if same_way w way && same_end e d then held else f w e

-- these tokens lie, and part 0 is at this phase; all others rest
pub record Holds (f : Places) (q : Phase) (s : Tokens) : Type 0 where
  pub lies : (way : Direction) (e : End) → s.in_place way e ≡ f way e
  pub first : (s.state 0).phase ≡ q
  pub others : (i : ℕ) → (s.state (suc i)).phase ≡ Rest

pub put_there : (way : Direction) (d : End) (held : Option ℕ) (f : Places) (q : Phase) (s : Tokens)
    → Holds f q s → Holds (placed_at way d held f) q (with_place way d held s)
put_there way d held f q s here =
    record {
      lies = λ w e. ap (λ x. if same_way w way && same_end e d then held else x) (here.lies w e);
      first = here.first;
      others = here.others;
    }

pub turned_to : (f : Places) (q : Phase) (u : State) (s : Tokens) → Holds f q s → Holds f u.phase (with_state 0 u s)
turned_to f q u s here = record { lies = here.lies; first = refl; others = rests }
  where
    rests : (i : ℕ) → ((with_state 0 u s).state (suc i)).phase ≡ Rest
    rests i = let rest = here.others i in grind (arith, rest)

-- where another part rests on
pub other_turned : (i : ℕ) (f : Places) (q : Phase) (u : State) (s : Tokens) → u.phase ≡ Rest → Holds f q s → Holds f q (with_state (suc i) u s)
other_turned i f q u s rest here = record { lies = here.lies; first = first; others = others }
  where
    first : ((with_state (suc i) u s).state 0).phase ≡ q
    first = let same = here.first in grind (arith, same)

    others : (j : ℕ) → ((with_state (suc i) u s).state (suc j)).phase ≡ Rest
    others j = by_test (nat_eq (suc j) (suc i)) refl
      where
        by_test : (b : Bool) → nat_eq (suc j) (suc i) ≡ b → ((with_state (suc i) u s).state (suc j)).phase ≡ Rest
        by_test true t = rw t rest
        by_test false t = let same = here.others j in rw t same

-- a place that is filled and then emptied is as it was
pub emptied : (way : Direction) (d : End) (held : Option ℕ) (q : Phase) (s : Tokens)
    → Holds (placed_at way d None (placed_at way d held nowhere)) q s → Holds nowhere q s
emptied way d held q s here =
    record { lies = λ w e. here.lies w e ∙ none (same_way w way && same_end e d); first = here.first; others = here.others }
  where
    none : (b : Bool) → (if b then None else (if b then held else None)) ≡ None
    none true = refl
    none false = refl

-- one place emptied and another filled
pub exchanged : (way : Direction) (d : End) (held : Option ℕ) (wayb : Direction) (e : End) (new : Option ℕ) (q : Phase) (s : Tokens)
    → Holds (placed_at wayb e new (placed_at way d None (placed_at way d held nowhere))) q s → Holds (placed_at wayb e new nowhere) q s
exchanged way d held wayb e new q s here =
    record {
      lies = λ w x. here.lies w x ∙ ap (λ y. if same_way w wayb && same_end x e then new else y) (none (same_way w way && same_end x d));
      first = here.first;
      others = here.others;
    }
  where
    none : (b : Bool) → (if b then None else (if b then held else None)) ≡ None
    none true = refl
    none false = refl

pub or_false : (b : Bool) → b ≡ true → (b || false) ≡ true
or_false true e = refl
or_false false e = e

pub none_open_at : (a b : Bool) → a ≡ false → b ≡ false → (a || (b || false)) ≡ true → ⊥
none_open_at true b e f g = cc e
none_open_at false true e f g = cc f
none_open_at false false e f g = cc g
