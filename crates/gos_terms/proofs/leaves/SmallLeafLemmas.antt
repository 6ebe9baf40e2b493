-- A node that uses number 0, with the plan of `skip` for the numbers 0 and 1.
use Rattle.std.specs.Prelude.{◌≡◌, ◌⊎◌, ℕ, zero, suc, Bool, true, false, List, [], ◌∷◌, Some, Contains, slice_get}
use Rattle.std.proofs.Common.{refl, sym, ◌∙◌, ap, subst, arith, inl, inr}
use Rattle.std.proofs.lemmas.List.Elements.{All-cons}
use Rattle.gos_types.specs.declared.shakes.Role.{Role}
use Rattle.gos_types.specs.declared.shakes.Role.TheVariants.{Serve, Ask}
use Rattle.gos_types.specs.Types.{Com}
use Rattle.gos_plan.specs.Kinds.{Part, Skip, Contact, asks, serves, turned_contact}
use Rattle.gos_plan.specs.Plans.{End, PartEnd, ImportEnd, ResultEnd, Joint, contact_at}
use Rattle.gos_plan.specs.SmallPlans.{skip_plan}
use Rattle.gos_plan.specs.TokenBits.{LiteralFits}
use Rattle.gos_ties.specs.declared.points.Place.TheVariants as places
use Rattle.gos_ties.specs.declared.points.Tie as point_ties
use Rattle.gos_realises.proofs.realises.SkipLemmas.{skip_is_realised}
use Rattle.gos_joining.specs.webs.Webs.{Dot, Of, Number, Node, Within, Tie, tie, Meet, Way, here, along, Connects, WaysFit, joint, own_web}
use Rattle.gos_compile.specs.Wiring.{row, led}
use Rattle.gos_terms.specs.wired.Wired.{dot_of, Source, Own, Supplied, IsFrom, placed, dot_at, wired_ties, wired_web}
use Rattle.gos_terms.specs.wired.SmallWired.{commands, skips, one_use}
use Rattle.gos_supplies.specs.unjoined.SmallBeside.{skip_and_loose}
use Rattle.gos_supplies.proofs.unjoined.SmallLemmas.{both_right}
use Rattle.gos_terms.specs.leaves.SmallLeaves.{one_each, LooseIsWired, OtherIsNotWired, LooseRealisesSkip}
use Rattle.gos_terms.proofs.leaves.TieLemmas.{by_tie}
use Rattle.gos_terms.proofs.leaves.UseLemmas.{use_is_realised}

abbrev both : List ℕ
both = 0 ∷ 1 ∷ []

abbrev ties : List Tie
ties = wired_ties commands 0 0 one_use both skips

-- the dots of number 1 and of its supply
abbrev is_second : Dot → Bool
is_second (Number zero h) = false
is_second (Number (suc n) h) = true
is_second (Of e) = false
is_second (Node j h) = false
is_second (Within k d) = false

abbrev is_loose : Dot → Bool
is_loose (Of e) = false
is_loose (Number n h) = false
is_loose (Node j h) = false
is_loose (Within zero d) = is_second d
is_loose (Within (suc zero) d) = false
is_loose (Within (suc (suc k)) d) = true

-- no way leads from these to others
own : (t : point_ties.Tie) → Contains (led (row places.Result 0 1) (places.Number 0) 0) t
    → is_loose (Within 0 (dot_of t.one)) ≡ is_loose (Within 0 (dot_of t.other))
own t (zero, small, e) = subst (λ (u : point_ties.Tie). is_loose (Within 0 (dot_of u.one)) ≡ is_loose (Within 0 (dot_of u.other))) e refl
own t (suc k, small, e) = absurd (omega (arith, small))

inner : (k : ℕ) → Contains both k → (t : Tie) → Contains (own_web skip_plan).ties t → is_loose (Within (suc k) t.one) ≡ is_loose (Within (suc k) t.other)
inner zero among t there = refl
inner (suc k) among t there = refl

outer : (k h : ℕ) → Contains both k → is_loose (Within 0 (Number k h)) ≡ is_loose (Within (suc k) (Of (ResultEnd h)))
outer zero h among = refl
outer (suc k) h among = refl

one_tie : (a b : Dot) → Contains ties (tie a b) → is_loose a ≡ is_loose b
one_tie = by_tie commands 0 0 one_use both skips (λ a b. is_loose a ≡ is_loose b) own inner outer

one_way : (a b : Dot) → Way ties a b → is_loose a ≡ is_loose b
one_way a b (here c) = refl
one_way a b (along c d e meets way) = by_meet meets ∙ one_way d e way
  where
    by_meet : Meet ties c d → is_loose c ≡ is_loose d
    by_meet (inl has) = one_tie c d has
    by_meet (inr has) = sym (one_tie d c has)

-- the three ends of the plan
abbrev IsEnd : End → Contact → Type 0
IsEnd e c = ((ResultEnd 0 ≡ e) × (asks 0 0 ≡ c)) ⊎ (((PartEnd 0 0 ≡ e) × (serves 0 0 ≡ c)) ⊎ ((PartEnd 1 0 ≡ e) × (serves 0 0 ≡ c)))

sort : (e : End) (c : Contact) → contact_at skip_and_loose e ≡ Some c → IsEnd e c
sort (PartEnd zero zero) c e = inr (inl (refl, cc e))
sort (PartEnd zero (suc h)) c e = absurd (cc e)
sort (PartEnd (suc zero) zero) c e = inr (inr (refl, cc e))
sort (PartEnd (suc zero) (suc h)) c e = absurd (cc e)
sort (PartEnd (suc (suc i)) h) c e = absurd (cc e)
sort (ImportEnd i h) c e = absurd (cc e)
sort (ResultEnd zero) c e = inl (refl, cc e)
sort (ResultEnd (suc h)) c e = absurd (cc e)

abbrev at : End → Dot
at e = dot_at 0 one_each e

-- a way from an end to one of the loose part
apart : (a b c d : End) → c ≡ a → d ≡ b → is_loose (at c) ≡ false → is_loose (at d) ≡ true → Way ties (at a) (at b) → ⊥
apart a b c d e f first second way =
    let clash : false ≡ true =
    sym first ∙ (ap (λ (x : End). is_loose (at x)) e ∙ (one_way (at a) (at b) way ∙ (ap (λ (x : End). is_loose (at x)) (sym f) ∙ second))) in
    cc clash

apart_back : (a b c d : End) → c ≡ a → d ≡ b → is_loose (at c) ≡ true → is_loose (at d) ≡ false → Way ties (at a) (at b) → ⊥
apart_back a b c d e f first second way =
    let clash : true ≡ false =
    sym first ∙ (ap (λ (x : End). is_loose (at x)) e ∙ (one_way (at a) (at b) way ∙ (ap (λ (x : End). is_loose (at x)) (sym f) ∙ second))) in
    cc clash

fits : WaysFit (wired_web commands 0 0 one_use both skips one_each) skip_and_loose
fits a b c d at_a at_b differ way = by_ends (sort a c at_a) (sort b d at_b)
  where
    by_ends : IsEnd a c → IsEnd b d → d ≡ turned_contact c
    by_ends (inl (e, x)) (inl (f, y)) = absurd (differ (sym e ∙ f))
    by_ends (inl (e, x)) (inr (inl (f, y))) = sym y ∙ ap turned_contact x
    by_ends (inl (e, x)) (inr (inr (f, y))) = absurd (apart a b (ResultEnd 0) (PartEnd 1 0) e f refl refl way)
    by_ends (inr (inl (e, x))) (inl (f, y)) = sym y ∙ ap turned_contact x
    by_ends (inr (inl (e, x))) (inr (inl (f, y))) = absurd (differ (sym e ∙ f))
    by_ends (inr (inl (e, x))) (inr (inr (f, y))) = absurd (apart a b (PartEnd 0 0) (PartEnd 1 0) e f refl refl way)
    by_ends (inr (inr (e, x))) (inl (f, y)) = absurd (apart_back a b (PartEnd 1 0) (ResultEnd 0) e f refl refl way)
    by_ends (inr (inr (e, x))) (inr (inl (f, y))) = absurd (apart_back a b (PartEnd 1 0) (PartEnd 0 0) e f refl refl way)
    by_ends (inr (inr (e, x))) (inr (inr (f, y))) = absurd (differ (sym e ∙ f))

-- from the result to number 0, to its supply's result, and to its Skip
the_way : Way ties (Within 0 (Of (ResultEnd 0))) (Within 1 (Of (PartEnd 0 0)))
the_way =
    along (Within 0 (Of (ResultEnd 0))) (Within 0 (Number 0 0)) (Within 1 (Of (PartEnd 0 0))) (inl (0, omega arith, refl))
    (along (Within 0 (Number 0 0)) (Within 1 (Of (ResultEnd 0))) (Within 1 (Of (PartEnd 0 0))) (inl (2, omega arith, refl))
    (along (Within 1 (Of (ResultEnd 0))) (Within 1 (Of (PartEnd 0 0))) (Within 1 (Of (PartEnd 0 0))) (inl (1, omega arith, refl))
    (here (Within 1 (Of (PartEnd 0 0))))))

abbrev by_role : Role → Bool
by_role Serve = false
by_role Ask = true

role_differs : (q v : ℕ) (c : Contact) → asks q v ≡ c → (k w : ℕ) → serves k w ≡ c → ⊥
role_differs q v c e k w f = let clash : true ≡ false = ap (λ (x : Contact). by_role x.role) (e ∙ sym f) in cc clash

joined : (a b : End) → Contains skip_and_loose.joints (joint a b) → Connects (wired_web commands 0 0 one_use both skips one_each) skip_and_loose a b
joined a b (zero, small, e) =
    subst (λ (j : Joint). Connects (wired_web commands 0 0 one_use both skips one_each) skip_and_loose j.asking j.serving) e (0, 0, refl, refl, the_way)
joined a b (suc n, small, e) = absurd (omega (arith, small))

connected : (a b : End) → Connects (wired_web commands 0 0 one_use both skips one_each) skip_and_loose a b → Contains skip_and_loose.joints (joint a b)
connected a b (q, v, asked, served, way) = by_ends (sort a (asks q v) asked) (sort b (serves q v) served)
  where
    by_ends : IsEnd a (asks q v) → IsEnd b (serves q v) → Contains skip_and_loose.joints (joint a b)
    by_ends (inl (e, x)) (inl (f, y)) = absurd (role_differs 0 0 (serves q v) y q v refl)
    by_ends (inl (e, x)) (inr (inl (f, y))) = (0, omega arith, (λ i. joint (e i) (f i)))
    by_ends (inl (e, x)) (inr (inr (f, y))) = absurd (apart a b (ResultEnd 0) (PartEnd 1 0) e f refl refl way)
    by_ends (inr (inl (e, x))) other = absurd (role_differs q v (asks q v) refl 0 0 x)
    by_ends (inr (inr (e, x))) other = absurd (role_differs q v (asks q v) refl 0 0 x)

parts : (x : Part) (s : Source) → IsFrom [] both skips x s → (slice_get skip_and_loose.parts (placed one_each s) ≡ Some x) × (one_each.source (placed one_each s) ≡ s)
parts x (Own k) has = absurd (cc has)
parts x (Supplied n (suc k)) (among, has) = absurd (cc has)
parts x (Supplied zero zero) (among, has) = (has, refl)
parts x (Supplied (suc zero) zero) (among, has) = (has, refl)
parts x (Supplied (suc (suc n)) zero) ((zero, small, e), has) = absurd (cc e)
parts x (Supplied (suc (suc n)) zero) ((suc zero, small, e), has) = absurd (cc e)
parts x (Supplied (suc (suc n)) zero) ((suc (suc k), small, e), has) = absurd (omega (arith, small))

sources : (k : ℕ) (x : Part) → slice_get skip_and_loose.parts k ≡ Some x → IsFrom [] both skips x (Supplied k 0) × (k ≡ k)
sources zero x has = (((0, omega arith, refl), has), refl)
sources (suc zero) x has = (((1, omega arith, refl), has), refl)
sources (suc (suc k)) x has = absurd (cc has)

pub loose_is_wired : LooseIsWired
loose_is_wired =
    record {
      outcome = refl;
      parts = parts;
      no_more = sources;
      imports = λ n k x among has. absurd (cc has);
      no_import = λ k x has. absurd (cc has);
      web = record { right = both_right; fits = fits; joints = λ a b. (joined a b, connected a b) };
    }

pub other_is_not_wired : OtherIsNotWired
other_is_not_wired is =
    apart (ResultEnd 0) (PartEnd 1 0) (ResultEnd 0) (PartEnd 1 0) refl refl refl refl
    ((is.web.joints (ResultEnd 0) (PartEnd 1 0)).0 (0, omega arith, refl)).4

pub loose_realises_skip : LooseRealisesSkip
loose_realises_skip =
    use_is_realised commands 0 0 0 Com both skips one_each skip_and_loose loose_is_wired (0, omega arith, refl) refl
    (All-cons LiteralFits Skip (Skip ∷ []) tt skip_is_realised.suits.literals) tt tt skip_is_realised
