-- What unfolds to a value is a head at the top: it unfolds in one way, and can do nothing else.
use Rattle.std.specs.Prelude.{◌≡◌, ◌⊎◌, ℕ, zero, suc}
use Rattle.std.proofs.Common.{arith, refl, sym, subst, inl, inr, ◌∙◌}
use Rattle.gos_model.specs.Terms.{Term, App, Fst, Snd, Seq, Par, If, Assign, Deref, Not, Bin, Scope, Held, Put}
use Rattle.gos_model.specs.Typing.{Imports}
use Rattle.gos_model.specs.Stores.{Store}
use Rattle.gos_model.specs.Reach.{Rel, Below, Unfolds}
use Rattle.gos_model.specs.Steps.{IsValue}
use Rattle.gos_model.specs.Moves.{Unfoldings}
use Rattle.gos_model.proofs.HeadLemmas.{lower_one}
use Rattle.gos_programs.specs.contexts.Ends.{RightWaitsForEnded, LeftWaitsForEnded}
use Rattle.gos_programs.proofs.contexts.BackwardLemmas.{OneHead, IsStuck, value_stuck, value_stays, value_answers, stuck_in, both_stalled}

-- a head at the top is an application or a projection
abbrev IsTopHead : Term → Type 0
IsTopHead (App m n) = Unit {0}
IsTopHead (Fst m) = Unit {0}
IsTopHead (Snd m) = Unit {0}
IsTopHead m = ⊥

top_one : (m t u : Term) → IsTopHead m → Unfolds m t → Unfolds m u → t ≡ u
top_one (App m n) t u is (inl (inl h)) (inl (inl g)) = lower_one (App m n) t u h g
top_one (App m n) t u is (inl (inl h)) (inl (inr g)) = absurd g
top_one (App m n) t u is (inl (inl h)) (inr g) = absurd g
top_one (App m n) t u is (inl (inr h)) k = absurd h
top_one (App m n) t u is (inr h) k = absurd h
top_one (Fst m) t u is (inl (inl h)) (inl (inl g)) = lower_one (Fst m) t u h g
top_one (Fst m) t u is (inl (inl h)) (inl (inr g)) = absurd g
top_one (Fst m) t u is (inl (inl h)) (inr g) = absurd g
top_one (Fst m) t u is (inl (inr h)) k = absurd h
top_one (Fst m) t u is (inr h) k = absurd h
top_one (Snd m) t u is (inl (inl h)) (inl (inl g)) = lower_one (Snd m) t u h g
top_one (Snd m) t u is (inl (inl h)) (inl (inr g)) = absurd g
top_one (Snd m) t u is (inl (inl h)) (inr g) = absurd g
top_one (Snd m) t u is (inl (inr h)) k = absurd h
top_one (Snd m) t u is (inr h) k = absurd h
top_one m t u is h k = absurd is

top_stuck : (i : Imports) (s : Store) (m : Term) → IsTopHead m → IsStuck i s m
top_stuck i s (App m n) is = (λ s' t h. grind (arith, h), λ o s' t out h. grind (arith, h))
top_stuck i s (Fst m) is = (λ s' t h. grind (arith, h), λ o s' t out h. grind (arith, h))
top_stuck i s (Snd m) is = (λ s' t h. grind (arith, h), λ o s' t out h. grind (arith, h))
top_stuck i s m is = absurd is

-- a term that only unfolds within keeps its form, and so comes to no value
abbrev IsFrame : Term → Type 0
IsFrame (Seq m n) = Unit {0}
IsFrame (Par m n) = Unit {0}
IsFrame (If m n p) = Unit {0}
IsFrame (Assign m n) = Unit {0}
IsFrame (Deref m) = Unit {0}
IsFrame (Not m) = Unit {0}
IsFrame (Bin op m n) = Unit {0}
IsFrame (Scope l m) = Unit {0}
IsFrame (Held k op n) = Unit {0}
IsFrame (Put m k) = Unit {0}
IsFrame m = ⊥

frame_below : (R : Rel) (m t : Term) → Below R m t → IsFrame t
frame_below R (Seq m n) t (m', e, h) = subst IsFrame (sym e) tt
frame_below R (Par m n) t (inl (m', e, h)) = subst IsFrame (sym e) tt
frame_below R (Par m n) t (inr (n', e, h)) = subst IsFrame (sym e) tt
frame_below R (If m n p) t (m', e, h) = subst IsFrame (sym e) tt
frame_below R (Bin op m n) t (m', e, h) = subst IsFrame (sym e) tt
frame_below R (Held k op n) t (n', e, h) = subst IsFrame (sym e) tt
frame_below R (Not m) t (m', e, h) = subst IsFrame (sym e) tt
frame_below R (Assign m n) t (n', e, h) = subst IsFrame (sym e) tt
frame_below R (Scope l m) t (m', e, h) = subst IsFrame (sym e) tt
frame_below R (Deref m) t (m', e, h) = subst IsFrame (sym e) tt
frame_below R (Put m k) t (m', e, h) = subst IsFrame (sym e) tt
frame_below R m t h = absurd h

frame_head : (m t : Term) → OneHead m t → IsTopHead m ⊎ IsFrame t
frame_head (App m n) t h = inl tt
frame_head (Fst m) t h = inl tt
frame_head (Snd m) t h = inl tt
frame_head (Deref m) t (inr (m', e, h)) = inr (subst IsFrame (sym e) tt)
frame_head (Put m k) t (inr (m', e, h)) = inr (subst IsFrame (sym e) tt)
frame_head m t (inl (inl h)) = absurd h
frame_head m t (inl (inr h)) = absurd h
frame_head m t (inr h) = absurd h

head_or_frame : (m t : Term) → Unfolds m t → IsTopHead m ⊎ IsFrame t
head_or_frame m t (inl h) = frame_head m t h
head_or_frame m t (inr h) = inr (frame_below OneHead m t h)

frame_stays : (m t : Term) → IsFrame m → Unfolds m t → IsFrame t
frame_stays m t is h = elim (head_or_frame m t h) [ inl top ↦ absurd (not_both m top is) | inr frame ↦ frame ]
  where
    not_both : (x : Term) → IsTopHead x → IsFrame x → ⊥
    not_both (App x y) top frame = frame
    not_both (Fst x) top frame = frame
    not_both (Snd x) top frame = frame
    not_both x top frame = top

frame_no_value : (n : ℕ) (m v : Term) → IsFrame m → Unfoldings n m v → IsValue v → ⊥
frame_no_value zero m v is h (inl e) = subst IsFrame (h ∙ e) is
frame_no_value zero m v is h (inr (k, w, e)) = subst IsFrame (h ∙ e) is
frame_no_value (suc n) m v is (u, h, hs) value = frame_no_value n u v (frame_stays m u is h) hs value

pub ended_stuck : (i : Imports) (s : Store) (n j : ℕ) (l v a : Term) → Unfoldings n l v → IsValue v → Unfoldings j l a → IsStuck i s a
ended_stuck i s zero j l v a h is g =
    let value : IsValue l = subst IsValue (sym h) is in
    subst (λ (x : Term). IsStuck i s x) (value_stays j l a value g) (value_stuck i s l value)
ended_stuck i s (suc n) j l v a (u, h, hs) is g =
    elim (head_or_frame l u h) [
      | inl top ↦ by_count j g top (λ k more. ended_stuck i s n k u v a hs is more)
      | inr frame ↦ absurd (frame_no_value n u v frame hs is)
    ]
  where
    by_count : (k : ℕ) → Unfoldings k l a → IsTopHead l → ((k : ℕ) → Unfoldings k u a → IsStuck i s a) → IsStuck i s a
    by_count zero same top further = subst (λ (x : Term). IsStuck i s x) same (top_stuck i s l top)
    by_count (suc k) (x, one, more) top further = further k (subst (λ (y : Term). Unfoldings k y a) (sym (top_one l u x top h one)) more)

pub right_waits_for_ended : RightWaitsForEnded
right_waits_for_ended q n s l v r ends is right =
    both_stalled q s l r
    (λ j k a b f g. (
      λ _ skip. value_answers q s r b k g (inl skip) right,
      ended_stuck q.imports s n j l v a ends is f,
      stuck_in q q s r b k refl g right,
    ))

pub left_waits_for_ended : LeftWaitsForEnded
left_waits_for_ended q n s l r v left ends is =
    both_stalled q s l r
    (λ j k a b f g. (
      λ skip _. value_answers q s l a j f (inl skip) left,
      stuck_in q q s l a j refl f left,
      ended_stuck q.imports s n k r v b ends is g,
    ))
