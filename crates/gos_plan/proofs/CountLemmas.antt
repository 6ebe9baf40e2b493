-- What an end takes and is given in a list, element by element, and that it is what Accounts counts.
use Rattle.std.specs.Prelude.{Option, None, ◌&&◌}
use Rattle.std.proofs.Common.{◌≡◌, ℕ, suc, ◌+◌, ◌*◌, Bool, true, false, List, [], ◌∷◌, ◌++◌, Some, refl, sym, ◌∙◌, ap, subst, arith, nat_eq, if◌then◌else◌}
use Rattle.gos_types.specs.Events.{Direction, Request, Answer}
use Rattle.gos_plan.specs.Firing.{Slot, Req, Ans, Token, same_slot}
use Rattle.gos_plan.specs.Plans.{End, PartEnd, ImportEnd, ResultEnd, same_end}
use Rattle.gos_plan.specs.Tokens.{Element, Fire, Out, In, shake_of, way_of, end_of, IsPortEnd}
use Rattle.gos_plan.specs.Firings.{due, value_due, times}
use Rattle.gos_plan.specs.Projection.{firings_of}
use Rattle.gos_plan.specs.Accounts.{count, number, outs_at, outs_sum, ins_at, ins_sum, slot_at, taken_at, sum_taken, put_at, sum_put}
use Rattle.gos_plan.proofs.PlaceLemmas.{worth, put_here}

-- what an end takes and is given in a list
abbrev pub outs : (ℕ → ℕ) → End → List Element → ℕ
outs f e [] = 0
outs f e (Fire i t ∷ xs) = outs f e xs
outs f e (Out d v ∷ xs) = (if same_end d e then f v else 0) + outs f e xs
outs f e (In d v ∷ xs) = outs f e xs

abbrev pub ins : (ℕ → ℕ) → End → List Element → ℕ
ins f e [] = 0
ins f e (Fire i t ∷ xs) = ins f e xs
ins f e (Out d v ∷ xs) = ins f e xs
ins f e (In d v ∷ xs) = (if same_end d e then f v else 0) + ins f e xs

abbrev pub weigh : (ℕ → ℕ) → ℕ → List Token → ℕ
weigh f h [] = 0
weigh f h (t ∷ ts) = (if nat_eq (shake_of t.slot) h then f t.value else 0) + weigh f h ts

abbrev pub all_taken : (ℕ → ℕ) → (ℕ → ℕ → ℕ) → Direction → End → List Element → ℕ
all_taken f values way (PartEnd i h) xs = times (slot_at way h) (firings_of i xs) * f (values i h)
all_taken f values way e xs = outs f e xs

abbrev pub all_given : (ℕ → ℕ) → (ℕ → List Token) → End → List Element → ℕ
all_given f puts (PartEnd i h) xs = weigh f h (puts i)
all_given f puts e xs = ins f e xs

weigh_append : (f : ℕ → ℕ) (h : ℕ) (ts us : List Token) → weigh f h (ts ++ us) ≡ weigh f h ts + weigh f h us
weigh_append f h [] us = omega arith
weigh_append f h (t ∷ ts) us = let rest = weigh_append f h ts us in omega (arith, rest)

-- what a part takes, by its first firing and the others
slot_same : (t : Slot) (way : Direction) (h : ℕ) → way_of t ≡ way → same_slot t (slot_at way h) ≡ nat_eq (shake_of t) h
slot_same (Req g) Request h is = refl
slot_same (Req g) Answer h is = absurd (cc is)
slot_same (Ans g) Request h is = absurd (cc is)
slot_same (Ans g) Answer h is = refl

slot_apart : (t : Slot) (way : Direction) (h : ℕ) → nat_eq (shake_of t) h ≡ false → same_slot t (slot_at way h) ≡ false
slot_apart (Req g) Request h apart = apart
slot_apart (Req g) Answer h apart = refl
slot_apart (Ans g) Request h apart = refl
slot_apart (Ans g) Answer h apart = apart

pub fire_taken : (f : ℕ → ℕ) (values : ℕ → ℕ → ℕ) (way : Direction) (e : End) (i : ℕ) (t : Slot) (xs : List Element) (v : ℕ) → v ≡ values i (shake_of t)
    → (same_end (end_of i t) e ≡ true → way_of t ≡ way)
    → all_taken f values way e (Fire i t ∷ xs) ≡ (if same_end (end_of i t) e then f v else 0) + all_taken f values way e xs
fire_taken f values way (ImportEnd l h) i t xs v value turns = omega arith
fire_taken f values way (ResultEnd h) i t xs v value turns = omega arith
fire_taken f values way (PartEnd l h) i t xs v value turns = by_part (nat_eq i l) refl
  where
    once : List Slot → ℕ
    once ss = times (slot_at way h) ss * f (values l h)

    goal : Bool → Bool → Type 0
    goal a b = once (if a then t ∷ firings_of l xs else firings_of l xs) ≡ (if a && b then f v else 0) + once (firings_of l xs)

    by_slot : (b : Bool) → nat_eq i l ≡ true → nat_eq (shake_of t) h ≡ b → goal true b
    by_slot true here same =
        let part : i ≡ l = grind (arith, here) in
        let shake : shake_of t ≡ h = grind (arith, same) in
        let number : f v ≡ f (values l h) = ap f (value ∙ (λ n. values (part n) (shake n))) in
        let way_is : way_of t ≡ way = turns (λ n. here n && same n) in
        let slot : same_slot t (slot_at way h) ≡ true = slot_same t way h way_is ∙ same in
        let count_is : times (slot_at way h) (t ∷ firings_of l xs) ≡ suc (times (slot_at way h) (firings_of l xs)) =
        ap (λ (b : Bool). if b then suc (times (slot_at way h) (firings_of l xs)) else times (slot_at way h) (firings_of l xs)) slot in
        ap (λ (n : ℕ). n * f (values l h)) count_is ∙ one_more (times (slot_at way h) (firings_of l xs)) (f (values l h)) (f v) (sym number)
      where
        one_more : (n c d : ℕ) → c ≡ d → suc n * c ≡ d + n * c
        one_more n c d same = subst (λ (x : ℕ). suc n * c ≡ x + n * c) same (omega arith)
    by_slot false here apart =
        let slot : same_slot t (slot_at way h) ≡ false = slot_apart t way h apart in
        let count_is : times (slot_at way h) (t ∷ firings_of l xs) ≡ times (slot_at way h) (firings_of l xs) =
        ap (λ (b : Bool). if b then suc (times (slot_at way h) (firings_of l xs)) else times (slot_at way h) (firings_of l xs)) slot in
        ap (λ (n : ℕ). n * f (values l h)) count_is ∙ omega arith

    by_part : (a : Bool) → nat_eq i l ≡ a → goal (nat_eq i l) (nat_eq (shake_of t) h)
    by_part true here = subst (λ (a : Bool). goal a (nat_eq (shake_of t) h)) (sym here) (by_slot (nat_eq (shake_of t) h) here refl)
    by_part false apart = subst (λ (a : Bool). goal a (nat_eq (shake_of t) h)) (sym apart) (omega arith)

-- what it puts, by its first firing and the others
abbrev pub with_rest : ℕ → List Token → (ℕ → List Token) → ℕ → List Token
with_rest i us puts l = if nat_eq l i then us else puts l

none_at_import : (f : ℕ → ℕ) (i l h : ℕ) (ts : List Token) → put_here f i ts (ImportEnd l h) ≡ 0
none_at_import f i l h [] = refl
none_at_import f i l h (t ∷ ts) = let rest = none_at_import f i l h ts in omega (arith, rest)

none_at_result : (f : ℕ → ℕ) (i h : ℕ) (ts : List Token) → put_here f i ts (ResultEnd h) ≡ 0
none_at_result f i h [] = refl
none_at_result f i h (t ∷ ts) = let rest = none_at_result f i h ts in omega (arith, rest)

own_put : (f : ℕ → ℕ) (i l h : ℕ) (ts : List Token) → nat_eq i l ≡ true → put_here f i ts (PartEnd l h) ≡ weigh f h ts
own_put f i l h [] same = refl
own_put f i l h (t ∷ ts) same =
    let first = ap (λ (b : Bool). if b && nat_eq (shake_of t.slot) h then f t.value else 0) same in
    let rest = own_put f i l h ts same in
    (λ n. first n + rest n)

other_put : (f : ℕ → ℕ) (i l h : ℕ) (ts : List Token) → nat_eq i l ≡ false → put_here f i ts (PartEnd l h) ≡ 0
other_put f i l h [] apart = refl
other_put f i l h (t ∷ ts) apart =
    let first : (if nat_eq i l && nat_eq (shake_of t.slot) h then f t.value else 0) ≡ 0 =
    ap (λ (b : Bool). if b && nat_eq (shake_of t.slot) h then f t.value else 0) apart in
    let rest = other_put f i l h ts apart in
    omega (arith, first, rest)

turned_same : (i l : ℕ) → nat_eq l i ≡ true → nat_eq i l ≡ true
turned_same i l t = grind (arith, t)

pub turned_apart : (i l : ℕ) → nat_eq l i ≡ false → nat_eq i l ≡ false
turned_apart i l t = grind (arith, t)

pub fire_given : (f : ℕ → ℕ) (puts : ℕ → List Token) (e : End) (i : ℕ) (t : Slot) (xs : List Element) (ts us : List Token) → puts i ≡ ts ++ us
    → all_given f puts e (Fire i t ∷ xs) ≡ put_here f i ts e + all_given f (with_rest i us puts) e xs
fire_given f puts (ImportEnd l h) i t xs ts us is = let none = none_at_import f i l h ts in omega (arith, none)
fire_given f puts (ResultEnd h) i t xs ts us is = let none = none_at_result f i h ts in omega (arith, none)
fire_given f puts (PartEnd l h) i t xs ts us is = by_test (nat_eq l i) refl
  where
    by_test : (b : Bool) → nat_eq l i ≡ b → weigh f h (puts l) ≡ put_here f i ts (PartEnd l h) + weigh f h (if nat_eq l i then us else puts l)
    by_test true same =
        let part : l ≡ i = grind (arith, same) in
        let whole = ap (weigh f h) (ap puts part ∙ is) in
        let parted = weigh_append f h ts us in
        let own = own_put f i l h ts (turned_same i l same) in
        let rest = ap (λ (b : Bool). weigh f h (if b then us else puts l)) same in
        omega (arith, whole, parted, own, rest)
    by_test false apart =
        let none = other_put f i l h ts (turned_apart i l apart) in
        let rest = ap (λ (b : Bool). weigh f h (if b then us else puts l)) apart in
        omega (arith, none, rest)

pub none_taken : (f : ℕ → ℕ) (values : ℕ → ℕ → ℕ) (way : Direction) (e : End) → all_taken f values way e [] ≡ 0
none_taken f values way (PartEnd i h) = omega arith
none_taken f values way (ImportEnd i h) = refl
none_taken f values way (ResultEnd h) = refl

-- outputs and inputs
pub port_apart : (d : End) (i h : ℕ) → IsPortEnd d → same_end d (PartEnd i h) ≡ false
port_apart (PartEnd j g) i h port = absurd port
port_apart (ImportEnd j g) i h port = refl
port_apart (ResultEnd g) i h port = refl

pub out_taken : (f : ℕ → ℕ) (values : ℕ → ℕ → ℕ) (way : Direction) (e d : End) (v : ℕ) (xs : List Element) → IsPortEnd d
    → all_taken f values way e (Out d v ∷ xs) ≡ (if same_end d e then f v else 0) + all_taken f values way e xs
out_taken f values way (ImportEnd i h) d v xs port = refl
out_taken f values way (ResultEnd h) d v xs port = refl
out_taken f values way (PartEnd i h) d v xs port =
    let none : (if same_end d (PartEnd i h) then f v else 0) ≡ 0 = ap (λ (b : Bool). if b then f v else 0) (port_apart d i h port) in
    omega (arith, none)

pub out_given : (f : ℕ → ℕ) (puts : ℕ → List Token) (e d : End) (v : ℕ) (xs : List Element) → all_given f puts e (Out d v ∷ xs) ≡ all_given f puts e xs
out_given f puts (ImportEnd i h) d v xs = refl
out_given f puts (ResultEnd h) d v xs = refl
out_given f puts (PartEnd i h) d v xs = refl

pub in_taken : (f : ℕ → ℕ) (values : ℕ → ℕ → ℕ) (way : Direction) (e d : End) (v : ℕ) (xs : List Element)
    → all_taken f values way e (In d v ∷ xs) ≡ all_taken f values way e xs
in_taken f values way (ImportEnd i h) d v xs = refl
in_taken f values way (ResultEnd h) d v xs = refl
in_taken f values way (PartEnd i h) d v xs = refl

pub in_given : (f : ℕ → ℕ) (puts : ℕ → List Token) (e d : End) (v : ℕ) (xs : List Element) → IsPortEnd d
    → all_given f puts e (In d v ∷ xs) ≡ (if same_end d e then f v else 0) + all_given f puts e xs
in_given f puts (ImportEnd i h) d v xs port = refl
in_given f puts (ResultEnd h) d v xs port = refl
in_given f puts (PartEnd i h) d v xs port =
    let none : (if same_end d (PartEnd i h) then f v else 0) ≡ 0 = ap (λ (b : Bool). if b then f v else 0) (port_apart d i h port) in
    omega (arith, none)

-- counts and sums
pub worth_one : (x : Option ℕ) → worth (λ v. 1) x ≡ count x
worth_one None = refl
worth_one (Some v) = refl

pub worth_itself : (x : Option ℕ) → worth (λ v. v) x ≡ number x
worth_itself None = refl
worth_itself (Some v) = refl

added : (b : Bool) (n m : ℕ) → n ≡ m → (if b then 1 else 0) + n ≡ (if b then suc m else m)
added true n m same = omega (arith, same)
added false n m same = omega (arith, same)

summed : (b : Bool) (v n m : ℕ) → n ≡ m → (if b then v else 0) + n ≡ (if b then v + m else m)
summed true v n m same = omega (arith, same)
summed false v n m same = omega (arith, same)

weigh_one : (h : ℕ) (ts : List Token) → weigh (λ v. 1) h ts ≡ due h ts
weigh_one h [] = refl
weigh_one h (t ∷ ts) = added (nat_eq (shake_of t.slot) h) _ _ (weigh_one h ts)

weigh_itself : (h : ℕ) (ts : List Token) → weigh (λ v. v) h ts ≡ value_due h ts
weigh_itself h [] = refl
weigh_itself h (t ∷ ts) = summed (nat_eq (shake_of t.slot) h) t.value _ _ (weigh_itself h ts)

outs_one : (e : End) (xs : List Element) → outs (λ v. 1) e xs ≡ outs_at e xs
outs_one e [] = refl
outs_one e (Fire i t ∷ xs) = outs_one e xs
outs_one e (Out d v ∷ xs) = added (same_end d e) _ _ (outs_one e xs)
outs_one e (In d v ∷ xs) = outs_one e xs

outs_itself : (e : End) (xs : List Element) → outs (λ v. v) e xs ≡ outs_sum e xs
outs_itself e [] = refl
outs_itself e (Fire i t ∷ xs) = outs_itself e xs
outs_itself e (Out d v ∷ xs) = summed (same_end d e) v _ _ (outs_itself e xs)
outs_itself e (In d v ∷ xs) = outs_itself e xs

ins_one : (e : End) (xs : List Element) → ins (λ v. 1) e xs ≡ ins_at e xs
ins_one e [] = refl
ins_one e (Fire i t ∷ xs) = ins_one e xs
ins_one e (Out d v ∷ xs) = ins_one e xs
ins_one e (In d v ∷ xs) = added (same_end d e) _ _ (ins_one e xs)

ins_itself : (e : End) (xs : List Element) → ins (λ v. v) e xs ≡ ins_sum e xs
ins_itself e [] = refl
ins_itself e (Fire i t ∷ xs) = ins_itself e xs
ins_itself e (Out d v ∷ xs) = ins_itself e xs
ins_itself e (In d v ∷ xs) = summed (same_end d e) v _ _ (ins_itself e xs)

pub taken_one : (values : ℕ → ℕ → ℕ) (way : Direction) (e : End) (xs : List Element) → all_taken (λ v. 1) values way e xs ≡ taken_at way e xs
taken_one values way (PartEnd i h) xs = omega arith
taken_one values way (ImportEnd i h) xs = outs_one (ImportEnd i h) xs
taken_one values way (ResultEnd h) xs = outs_one (ResultEnd h) xs

pub taken_itself : (values : ℕ → ℕ → ℕ) (way : Direction) (e : End) (xs : List Element) → all_taken (λ v. v) values way e xs ≡ sum_taken values way e xs
taken_itself values way (PartEnd i h) xs = refl
taken_itself values way (ImportEnd i h) xs = outs_itself (ImportEnd i h) xs
taken_itself values way (ResultEnd h) xs = outs_itself (ResultEnd h) xs

pub given_one : (puts : ℕ → List Token) (e : End) (xs : List Element) → all_given (λ v. 1) puts e xs ≡ put_at puts e xs
given_one puts (PartEnd i h) xs = weigh_one h (puts i)
given_one puts (ImportEnd i h) xs = ins_one (ImportEnd i h) xs
given_one puts (ResultEnd h) xs = ins_one (ResultEnd h) xs

pub given_itself : (puts : ℕ → List Token) (e : End) (xs : List Element) → all_given (λ v. v) puts e xs ≡ sum_put puts e xs
given_itself puts (PartEnd i h) xs = weigh_itself h (puts i)
given_itself puts (ImportEnd i h) xs = ins_itself (ImportEnd i h) xs
given_itself puts (ResultEnd h) xs = ins_itself (ResultEnd h) xs
