-- Unfolding at a place ends: it lowers the height. A variable stands in at most one part of an application.
use Rattle.std.specs.Prelude.{◌≡◌, ◌≤◌, ◌<◌, ◌+◌, ℕ, suc, max, Bool, true, false, nat_eq, if◌then◌else◌}
use Rattle.std.proofs.Common.{refl, ap, subst, inl, inr, arith}
use Rattle.std.proofs.Math.Nat.{max-le, le-max_left, le-max_right}
use Rattle.gos_model.specs.Terms.{Term, Skip, Lit, Bound, Import, Lam, App, Both, Fst, Snd, Seq, Par, If, While, Assign, Deref, New, Not, Bin, Loc, Scope, Wait, Held, Put, NewArray, Arr}
use Rattle.gos_model.specs.Substitution.{put_at}
use Rattle.gos_model.specs.Typing.{Apart}
use Rattle.gos_model.specs.Reach.{Rewrites, Under}
use Rattle.gos_swaps.specs.proper.Proper.{PartsApart}
use Rattle.gos_swaps.specs.heights.Heights.{height, PuttingAdds, UnfoldingLowers, UnfoldingUnderLowers}
use Rattle.gos_swaps.proofs.proper.ThingLemmas.{has, absent, lone}

-- the height of a choice
choice : (b : Bool) (q : Term) (n : ℕ) → height (if b then q else Bound n) ≤ 0 + height q
choice true q n = omega arith
choice false q n = omega arith

-- the term goes into one part of an application
both_add :
    (m n : Term) (d : ℕ) (q : Term) → Apart m n → height (put_at d q m) ≤ height m + height q → height (put_at d q n) ≤ height n + height q
    → suc (height (put_at d q m) + height (put_at d q n)) ≤ suc (height m + height n) + height q
both_add m n d q apart left right = tested (has d m) refl
  where
    tested : (t : Bool) → has d m ≡ t → suc (height (put_at d q m) + height (put_at d q n)) ≤ suc (height m + height n) + height q
    tested true h =
        let same : height (put_at d q n) ≡ height n = ap height (absent n d q (lone m n d apart h)) in omega (arith, left, same)
    tested false h = let same : height (put_at d q m) ≡ height m = ap height (absent m d q h) in omega (arith, right, same)

pub putting_adds : (m : Term) (d : ℕ) (q : Term) → PartsApart m → height (put_at d q m) ≤ height m + height q
putting_adds Skip d q a = omega arith
putting_adds (Lit k w) d q a = omega arith
putting_adds (Bound n) d q a = choice (nat_eq n d) q n
putting_adds (Import x) d q a = omega arith
putting_adds (Lam t m) d q a = putting_adds m (suc d) q a
putting_adds (App m n) d q (apart, a, b) = both_add m n d q apart (putting_adds m d q a) (putting_adds n d q b)
putting_adds (Both m n) d q (a, b) =
    let left = putting_adds m d q a in
    let right = putting_adds n d q b in
    let low : height m ≤ max (height m) (height n) = le-max_left (height m) (height n) in
    let high : height n ≤ max (height m) (height n) = le-max_right (height m) (height n) in
    let both : max (height (put_at d q m)) (height (put_at d q n)) ≤ max (height m) (height n) + height q = max-le (omega (arith, left, low)) (omega (arith, right, high)) in
    omega (arith, both)
putting_adds (Fst m) d q a = putting_adds m d q a
putting_adds (Snd m) d q a = putting_adds m d q a
putting_adds (Seq m n) d q a = omega arith
putting_adds (Par m n) d q a = omega arith
putting_adds (If m n p) d q a = omega arith
putting_adds (While m n) d q a = omega arith
putting_adds (Assign m n) d q a = omega arith
putting_adds (Deref m) d q a = omega arith
putting_adds (New w m) d q a = omega arith
putting_adds (NewArray n w m) d q a = omega arith
putting_adds (Not m) d q a = omega arith
putting_adds (Bin op m n) d q a = omega arith
putting_adds (Loc l) d q a = omega arith
putting_adds (Arr l) d q a = omega arith
putting_adds (Scope l m) d q a = omega arith
putting_adds (Wait x s) d q a = omega arith
putting_adds (Held k op n) d q a = omega arith
putting_adds (Put m k) d q a = omega arith

pub putting_adds_so : PuttingAdds
putting_adds_so d n m a = putting_adds m d n a

-- at the head
lowers : (m t : Term) → PartsApart m → Rewrites m t → height t < height m
lowers (App m n) t (apart, a, b) (ty, body, em, et) =
    let inner : PartsApart body = subst PartsApart em a in
    let high : height m ≡ height body = ap height em in
    let adds : height (put_at 0 n body) ≤ height body + height n = putting_adds body 0 n inner in
    let same : height t ≡ height (put_at 0 n body) = ap height et in
    omega (arith, high, adds, same)
lowers (Fst m) t a (n, e) =
    let high : height m ≡ suc (max (height t) (height n)) = ap height e in
    let low : height t ≤ max (height t) (height n) = le-max_left (height t) (height n) in
    omega (arith, high, low)
lowers (Snd m) t a (n, e) =
    let high : height m ≡ suc (max (height n) (height t)) = ap height e in
    let low : height t ≤ max (height n) (height t) = le-max_right (height n) (height t) in
    omega (arith, high, low)
lowers m t a r = absurd r

pub unfolding_lowers : UnfoldingLowers
unfolding_lowers m t a r = lowers m t a r

-- and at a head under it
under : (m t : Term) → PartsApart m → Under Rewrites m t → height t < height m
under (App m n) t (apart, a, b) (x, e, inl r) =
    let low = lowers m x a r in
    let same : height t ≡ suc (height x + height n) = ap height e in
    omega (arith, low, same)
under (App m n) t (apart, a, b) (x, e, inr r) =
    let low = under m x a r in
    let same : height t ≡ suc (height x + height n) = ap height e in
    omega (arith, low, same)
under (Fst m) t a (x, e, inl r) = let low = lowers m x a r in let same : height t ≡ height x = ap height e in omega (arith, low, same)
under (Fst m) t a (x, e, inr r) = let low = under m x a r in let same : height t ≡ height x = ap height e in omega (arith, low, same)
under (Snd m) t a (x, e, inl r) = let low = lowers m x a r in let same : height t ≡ height x = ap height e in omega (arith, low, same)
under (Snd m) t a (x, e, inr r) = let low = under m x a r in let same : height t ≡ height x = ap height e in omega (arith, low, same)
under m t a r = absurd r

pub unfolding_under_lowers : UnfoldingUnderLowers
unfolding_under_lowers m t a r = under m t a r
