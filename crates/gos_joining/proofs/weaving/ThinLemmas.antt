-- A thin web is plain: by induction on ties, since a way needs the first of them once at most.
use Rattle.std.specs.Prelude.{◌≡◌, ℕ, ◌+◌, ◌≤◌, Bool, true, List, [], ◌∷◌, ◌⊎◌, Contains, if◌then◌else◌}
use Rattle.std.proofs.Common.{refl, sym, ◌∙◌, ap, subst, arith, inl, inr}
use Rattle.gos_joining.specs.webs.Webs.{Dot, Tie, tie, Meet, Way, here, along}
use Rattle.gos_joining.proofs.webs.WayLemmas.{way_back}
use Rattle.gos_joining.specs.weaving.Woven.{same_dot, once, meetings, ThinIsPlain}
use Rattle.gos_joining.proofs.weaving.DotLemmas.{dot_itself}
use Rattle.gos_joining.proofs.weaving.CrossingLemmas.{first_or_later, Crossing, Past, Forth, Back, crossing, no_way}

pub once_same : (d e : Dot) → d ≡ e → once d e ≡ 1
once_same d e same =
    ap (λ (b : Bool). if b then 1 else 0) (subst (λ (x : Dot). same_dot d x ≡ true) same (dot_itself d))

-- what stands in a tie is counted
by_tie : (ts : List Tie) (t : Tie) (d : Dot) (n : ℕ) → (d ≡ t.one) ⊎ (d ≡ t.other) → 1 ≤ once d t.one + once d t.other + n
by_tie ts t d n (inl is) = let e = once_same d t.one is in omega (arith, e)
by_tie ts t d n (inr is) = let e = once_same d t.other is in omega (arith, e)

by_list : (ts : List Tie) (x t : Tie) (d : Dot) → (d ≡ t.one) ⊎ (d ≡ t.other) → (x ≡ t) ⊎ Contains ts t → (Contains ts t → 1 ≤ meetings d ts) → 1 ≤ meetings d (x ∷ ts)
by_list ts x t d stands (inl is) further =
    by_tie ts x d (meetings d ts) (subst (λ (y : Tie). (d ≡ y.one) ⊎ (d ≡ y.other)) (sym is) stands)
by_list ts x t d stands (inr has) further = let more = further has in omega (arith, more)

counted : (ts : List Tie) (t : Tie) (d : Dot) → (d ≡ t.one) ⊎ (d ≡ t.other) → Contains ts t → 1 ≤ meetings d ts
counted [] t d stands (n, within, is) = absurd (omega (arith, within))
counted (x ∷ ts) t d stands has = by_list ts x t d stands (first_or_later ts x t has) (λ more. counted ts t d stands more)

meets_counted : (ts : List Tie) (d c : Dot) → Meet ts d c → 1 ≤ meetings d ts
meets_counted ts d c (inl has) = counted ts (tie d c) d (inl refl) has
meets_counted ts d c (inr has) = counted ts (tie c d) d (inr refl) has

-- from a dot that stands in no tie a way leads nowhere
pub no_further : (ts : List Tie) (a b : Dot) → meetings a ts ≡ 0 → Way ts a b → a ≡ b
no_further ts a b none (here d) = refl
no_further ts a b none (along d c z meets way) = let some = meets_counted ts d c meets in absurd (omega (arith, some, none))

-- where no dot stands in more than two ties, and these three stand in one at most: of the dots to which ways lead there is one
abbrev Far : Dot → Dot → Dot → Type 0
Far x y z = (x ≡ y) ⊎ (x ≡ z) ⊎ (y ≡ z)

other_way : (x y z : Dot) → Far x z y → Far x y z
other_way x y z (inl same) = inr (inl same)
other_way x y z (inr (inl same)) = inl same
other_way x y z (inr (inr same)) = inr (inr (sym same))

abbrev OneFar : List Tie → Type 0
OneFar ts =
    (x y z : Dot) → meetings x ts ≤ 1 → meetings y ts ≤ 1 → meetings z ts ≤ 1 → Way ts x y → Way ts x z → Far x y z

-- the tie is the first, or the first the other way round
record Ready (ts : List Tie) (p q : Dot) : Type 0 where
  far : OneFar ts
  first : meetings p ts ≤ 1
  last : meetings q ts ≤ 1
  ring : p ≡ q → meetings p ts ≡ 0

abbrev Few : List Tie → Dot → Dot → Dot → Type 0
Few ts p q x = once x p + once x q + meetings x ts ≤ 1

turned_few : (ts : List Tie) (p q x : Dot) → Few ts p q x → Few ts q p x
turned_few ts p q x few = omega (arith, few)

turned_ready : (ts : List Tie) (p q : Dot) → Ready ts p q → Ready ts q p
turned_ready ts p q is =
    record {
      far = is.far;
      first = is.last;
      last = is.first;
      ring = λ same. subst (λ (x : Dot). meetings x ts ≡ 0) (sym same) (is.ring (sym same));
    }

few_once : (ts : List Tie) (p q x : Dot) → Few ts p q x → x ≡ p → meetings x ts ≡ 0
few_once ts p q x few is = let e = once_same x p is in omega (arith, e, few)

few_twice : (ts : List Tie) (p q x : Dot) → Few ts p q x → x ≡ p → x ≡ q → ⊥
few_twice ts p q x few is also =
    let e = once_same x p is in let f = once_same x q also in omega (arith, e, f, few)

few_less : (ts : List Tie) (p q x : Dot) → Few ts p q x → meetings x ts ≤ 1
few_less ts p q x few = omega (arith, few)

-- one way uses the tie, the other doesn't
past_forth : (ts : List Tie) (p q x y z : Dot) → Ready ts p q → Few ts p q x → Few ts p q y → Way ts x y → Way ts x p → Far x y z
past_forth ts p q x y z is at_x at_y way first =
    by_far (is.far x y p (few_less ts p q x at_x) (few_less ts p q y at_y) is.first way first)
  where
    by_far : Far x y p → Far x y z
    by_far (inl same) = inl same
    by_far (inr (inl same)) = inl (no_further ts x y (few_once ts p q x at_x same) way)
    by_far (inr (inr same)) = inl (sym (no_further ts y x (few_once ts p q y at_y same) (way_back ts x y way)))

-- both use it in one way
both_forth : (ts : List Tie) (p q x y z : Dot) → Ready ts p q → Few ts p q y → Few ts p q z → Way ts q y → Way ts q z → Far x y z
both_forth ts p q x y z is at_y at_z way other =
    by_far (is.far q y z is.last (few_less ts p q y at_y) (few_less ts p q z at_z) way other)
  where
    by_far : Far q y z → Far x y z
    by_far (inl same) =
        inr (inr
        (no_further ts y z (few_once ts q p y (turned_few ts p q y at_y) (sym same))
        (subst (λ (d : Dot). Way ts d z) same other)))
    by_far (inr (inl same)) =
        inr (inr (sym
        (no_further ts z y (few_once ts q p z (turned_few ts p q z at_z) (sym same))
        (subst (λ (d : Dot). Way ts d y) same way))))
    by_far (inr (inr same)) = inr (inr same)

-- one forth and one back: from a dot to both of the tie's
no_both : (ts : List Tie) (p q x : Dot) → Ready ts p q → Few ts p q x → Way ts x p → Way ts x q → ⊥
no_both ts p q x is at_x forth back =
    by_far (is.far x p q (few_less ts p q x at_x) is.first is.last forth back)
  where
    by_far : Far x p q → ⊥
    by_far (inl same) =
        few_twice ts p q x at_x same (no_further ts x q (few_once ts p q x at_x same) back)
    by_far (inr (inl same)) =
        few_twice ts p q x at_x (no_further ts x p (few_once ts q p x (turned_few ts p q x at_x) same) forth) same
    by_far (inr (inr same)) =
        let at_p = sym (no_further ts p x (is.ring same) (way_back ts x p forth)) in
        few_twice ts p q x at_x at_p (at_p ∙ same)

onward : (ts : List Tie) (p q x y z : Dot) → Ready ts p q → Few ts p q x → Few ts p q y → Few ts p q z
    → Crossing ts p q x y → Crossing ts p q x z → Far x y z
onward ts p q x y z is at_x at_y at_z (Past way) (Past other) =
    is.far x y z (few_less ts p q x at_x) (few_less ts p q y at_y) (few_less ts p q z at_z) way other
onward ts p q x y z is at_x at_y at_z (Past way) (Forth first rest) = past_forth ts p q x y z is at_x at_y way first
onward ts p q x y z is at_x at_y at_z (Past way) (Back first rest) =
    past_forth ts q p x y z (turned_ready ts p q is) (turned_few ts p q x at_x) (turned_few ts p q y at_y) way first
onward ts p q x y z is at_x at_y at_z (Forth first rest) (Past way) =
    other_way x y z (past_forth ts p q x z y is at_x at_z way first)
onward ts p q x y z is at_x at_y at_z (Forth first rest) (Forth begin end) =
    both_forth ts p q x y z is at_y at_z rest end
onward ts p q x y z is at_x at_y at_z (Forth first rest) (Back begin end) = absurd (no_both ts p q x is at_x first begin)
onward ts p q x y z is at_x at_y at_z (Back first rest) (Past way) =
    other_way x y z
    (past_forth ts q p x z y (turned_ready ts p q is) (turned_few ts p q x at_x) (turned_few ts p q z at_z) way first)
onward ts p q x y z is at_x at_y at_z (Back first rest) (Forth begin end) = absurd (no_both ts p q x is at_x begin first)
onward ts p q x y z is at_x at_y at_z (Back first rest) (Back begin end) =
    both_forth ts q p x y z (turned_ready ts p q is) (turned_few ts p q y at_y) (turned_few ts p q z at_z) rest end

ready : (ts : List Tie) (p q : Dot) → ((d : Dot) → once d p + once d q + meetings d ts ≤ 2) → OneFar ts → Ready ts p q
ready ts p q points far =
    record {
      far = far;
      first = let e = once_same p p refl in let at_p = points p in omega (arith, e, at_p);
      last = let e = once_same q q refl in let at_q = points q in omega (arith, e, at_q);
      ring =
          λ same. let e = once_same p p refl in let f = once_same p q same in let at_p = points p in omega (arith, e, f, at_p);
    }

fewer : (ts : List Tie) (t : Tie) → ((d : Dot) → meetings d (t ∷ ts) ≤ 2) → (d : Dot) → meetings d ts ≤ 2
fewer ts t points d = let at = points d in omega (arith, at)

pub one_far : (ts : List Tie) → ((d : Dot) → meetings d ts ≤ 2) → OneFar ts
one_far [] points = λ x y z at_x at_y at_z way other. inl (no_way x y way)
one_far (t ∷ ts) points =
    let is = ready ts t.one t.other points (one_far ts (fewer ts t points)) in
    λ x y z at_x at_y at_z way other.
    onward ts t.one t.other x y z is at_x at_y at_z (crossing ts t.one t.other x y way) (crossing ts t.one t.other x z other)

pub thin_is_plain : ThinIsPlain
thin_is_plain v c thin a b d k l m at_a at_b at_d first last way other =
    by_far
    (one_far v.ties thin.points (v.at a) (v.at b) (v.at d) (thin.ends a k at_a) (thin.ends b l at_b) (thin.ends d m at_d) way other)
  where
    by_far : Far (v.at a) (v.at b) (v.at d) → b ≡ d
    by_far (inl same) = absurd (first (thin.apart a b k l at_a at_b same))
    by_far (inr (inl same)) = absurd (last (thin.apart a d k m at_a at_d same))
    by_far (inr (inr same)) = thin.apart b d l m at_b at_d same
