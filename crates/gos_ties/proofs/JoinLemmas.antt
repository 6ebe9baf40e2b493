-- One bond more joins two chains: the far numbers stay known.
--
-- For the proof numbers have classes: two numbers between which there is a bond have one class, and of one class no
-- more than two numbers are in one bond at most.
use Rattle.std.specs.Prelude.{◌≡◌, ◌≢◌, ℕ, zero, suc, ◌+◌, ◌≤◌, ◌<◌, ◌⊎◌, List, [], ◌∷◌, drop, nat_eq, if◌then◌else◌}
use Rattle.std.proofs.Common.{refl, ap, sym, ◌∙◌, subst, arith, inl, inr}
use Rattle.std.proofs.lemmas.Bool.{eq-eqb, ne_eqb}
use Rattle.gos_model.proofs.NumberLemmas.{number_cases}
use Rattle.gos_ties.specs.declared.joining.Bond.{Bond}
use Rattle.gos_ties.specs.inner.Joined.{Joins, Leads, stays, goes, touches, AreFar, AreBelow, joined}

-- bonds lead on, back, and along more bonds
leads_on : {ts : List Bond} (a b c : ℕ) → Leads ts a b → Leads ts b c → Leads ts a c
leads_on a b c (stays _) m = m
leads_on a b c (goes _ d _ j l) m = goes a d c j (leads_on d b c l m)

joins_back : (ts : List Bond) (a b : ℕ) → Joins ts a b → Joins ts b a
joins_back [] a b j = j
joins_back (t ∷ ts) a b (inl e) = inr (inl e)
joins_back (t ∷ ts) a b (inr (inl e)) = inl e
joins_back (t ∷ ts) a b (inr (inr j)) = inr (inr (joins_back ts a b j))

leads_back : (ts : List Bond) (a b : ℕ) → Leads ts a b → Leads ts b a
leads_back ts a b (stays _) = stays a
leads_back ts a b (goes _ c _ j l) = leads_on b c a (leads_back ts c b l) (goes c a a (joins_back ts a c j) (stays a))

leads_more : (t : Bond) (ts : List Bond) (a b : ℕ) → Leads ts a b → Leads (t ∷ ts) a b
leads_more t ts a b (stays _) = stays a
leads_more t ts a b (goes _ c _ j l) = goes a c b (inr (inr j)) (leads_more t ts c b l)

-- what is known of far numbers, with classes
pub record Classed (ts : List Bond) (far : ℕ → ℕ) (class : ℕ → ℕ) : Type 0 where
  pub joins : (a b : ℕ) → Joins ts a b → class a ≡ class b
  pub of_far : (p : ℕ) → class (far p) ≡ class p
  pub pairs : (p q : ℕ) → touches p ts ≤ 1 → touches q ts ≤ 1 → class p ≡ class q → (q ≡ p) ⊎ (q ≡ far p)
  pub alone : (p : ℕ) → touches p ts ≡ 0 → far p ≡ p
  pub reached : (p : ℕ) → Leads ts p (far p)

-- one class becomes another
abbrev merged : ℕ → ℕ → ℕ → ℕ
merged c d x = if nat_eq x c then d else x

merged_one : (c d : ℕ) → merged c d c ≡ d
merged_one c d = rw (eq-eqb c c refl) refl

merged_other : (c d x : ℕ) → x ≢ c → merged c d x ≡ x
merged_other c d x h = rw (ne_eqb x c h) refl

merged_into : (c d : ℕ) → merged c d d ≡ d
merged_into c d = number_cases d c (λ e t. rw t refl) (λ h f. rw f refl)

-- touches, one bond more
touched_more : (t : Bond) (ts : List Bond) (p : ℕ) → touches p ts ≤ touches p (t ∷ ts)
touched_more t ts p = omega arith

touched_one : (t : Bond) (ts : List Bond) → 1 + touches t.one ts ≤ touches t.one (t ∷ ts)
touched_one t ts = rw (eq-eqb t.one t.one refl) (omega arith)

touched_other : (t : Bond) (ts : List Bond) → 1 + touches t.other ts ≤ touches t.other (t ∷ ts)
touched_other t ts = rw (eq-eqb t.other t.other refl) (omega arith)

-- the far numbers of the two far ends
far_one : (t : Bond) (far : ℕ → ℕ) → joined t far (far t.one) ≡ far t.other
far_one t far =
    number_cases (far t.one) (far t.other) (λ e b. rw b e) (λ h b. rw (b, eq-eqb (far t.one) (far t.one) refl) refl)

far_other : (t : Bond) (far : ℕ → ℕ) → joined t far (far t.other) ≡ far t.one
far_other t far = rw (eq-eqb (far t.other) (far t.other) refl) refl

far_rest : (t : Bond) (far : ℕ → ℕ) (p : ℕ) → p ≢ far t.other → p ≢ far t.one → joined t far p ≡ far p
far_rest t far p h g = rw (ne_eqb p (far t.other) h, ne_eqb p (far t.one) g) refl

-- a class that joins: an end of the first chain is its far one
spot_one : (t : Bond) (ts : List Bond) (far class : ℕ → ℕ) → Classed ts far class → touches t.one (t ∷ ts) ≤ 2
    → (p : ℕ) → touches p (t ∷ ts) ≤ 1 → class p ≡ class t.one → p ≡ far t.one
spot_one t ts far class k few p end e =
    let old : touches p ts ≤ 1 = (let m = touched_more t ts p in omega (arith, m, end)) in
    let own : touches t.one ts ≤ 1 = (let m = touched_one t ts in omega (arith, m, few)) in
    elim (k.pairs t.one p own old (sym e)) [
      | inl same ↦
          let here : touches t.one (t ∷ ts) ≤ 1 = subst (λ (q : ℕ). touches q (t ∷ ts) ≤ 1) same end in
          let none : touches t.one ts ≡ 0 = (let m = touched_one t ts in omega (arith, m, here)) in
          same ∙ sym (k.alone t.one none)
      | inr far_one ↦ far_one
    ]

spot_other : (t : Bond) (ts : List Bond) (far class : ℕ → ℕ) → Classed ts far class → touches t.other (t ∷ ts) ≤ 2
    → (p : ℕ) → touches p (t ∷ ts) ≤ 1 → class p ≡ class t.other → p ≡ far t.other
spot_other t ts far class k few p end e =
    let old : touches p ts ≤ 1 = (let m = touched_more t ts p in omega (arith, m, end)) in
    let own : touches t.other ts ≤ 1 = (let m = touched_other t ts in omega (arith, m, few)) in
    elim (k.pairs t.other p own old (sym e)) [
      | inl same ↦
          let here : touches t.other (t ∷ ts) ≤ 1 = subst (λ (q : ℕ). touches q (t ∷ ts) ≤ 1) same end in
          let none : touches t.other ts ≡ 0 = (let m = touched_other t ts in omega (arith, m, here)) in
          same ∙ sym (k.alone t.other none)
      | inr far_one ↦ far_one
    ]

-- the new classes
abbrev class_after : Bond → (ℕ → ℕ) → ℕ → ℕ
class_after t class p = merged (class t.one) (class t.other) (class p)

joins_after : (t : Bond) (ts : List Bond) (far class : ℕ → ℕ) → Classed ts far class → (a b : ℕ) → Joins (t ∷ ts) a b
    → class_after t class a ≡ class_after t class b
joins_after t ts far class k a b (inl e) =
    let ends : class_after t class t.one ≡ class_after t class t.other =
    merged_one (class t.one) (class t.other) ∙ sym (merged_into (class t.one) (class t.other))
    in
    ap (λ (u : Bond). class_after t class u.one) (sym e) ∙ (ends ∙ ap (λ (u : Bond). class_after t class u.other) e)
joins_after t ts far class k a b (inr (inl e)) =
    let ends : class_after t class t.one ≡ class_after t class t.other =
    merged_one (class t.one) (class t.other) ∙ sym (merged_into (class t.one) (class t.other))
    in
    ap (λ (u : Bond). class_after t class u.other) (sym e) ∙ (sym ends ∙ ap (λ (u : Bond). class_after t class u.one) e)
joins_after t ts far class k a b (inr (inr j)) = ap (λ (c : ℕ). merged (class t.one) (class t.other) c) (k.joins a b j)

of_far_after : (t : Bond) (ts : List Bond) (far class : ℕ → ℕ) → Classed ts far class → (p : ℕ)
    → class_after t class (joined t far p) ≡ class_after t class p
of_far_after t ts far class k p =
    let at_one : class_after t class (far t.one) ≡ class t.other =
    ap (λ (c : ℕ). merged (class t.one) (class t.other) c) (k.of_far t.one) ∙ merged_one (class t.one) (class t.other)
    in
    let at_other : class_after t class (far t.other) ≡ class t.other =
    ap (λ (c : ℕ). merged (class t.one) (class t.other) c) (k.of_far t.other) ∙ merged_into (class t.one) (class t.other)
    in
    number_cases p (far t.other)
    (λ e b. ap (λ (q : ℕ). class_after t class (joined t far q)) e
    ∙ (ap (λ (q : ℕ). class_after t class q) (far_other t far) ∙ (at_one ∙ (sym at_other ∙ ap (λ (q : ℕ). class_after t class q) (sym e)))))
    (λ h b. number_cases p (far t.one)
    (λ e g. ap (λ (q : ℕ). class_after t class (joined t far q)) e
    ∙ (ap (λ (q : ℕ). class_after t class q) (far_one t far) ∙ (at_other ∙ (sym at_one ∙ ap (λ (q : ℕ). class_after t class q) (sym e)))))
    (λ g d. ap (λ (q : ℕ). class_after t class q) (far_rest t far p h g)
    ∙ ap (λ (c : ℕ). merged (class t.one) (class t.other) c) (k.of_far p)))

pairs_after : (t : Bond) (ts : List Bond) (far class : ℕ → ℕ) → Classed ts far class
    → touches t.one (t ∷ ts) ≤ 2 → touches t.other (t ∷ ts) ≤ 2
    → (p q : ℕ) → touches p (t ∷ ts) ≤ 1 → touches q (t ∷ ts) ≤ 1 → class_after t class p ≡ class_after t class q
    → (q ≡ p) ⊎ (q ≡ joined t far p)
pairs_after t ts far class k few_one few_other p q end_p end_q e =
    let one = spot_one t ts far class k few_one in
    let other = spot_other t ts far class k few_other in
    number_cases (class p) (class t.one)
    (λ in_p b.
    let new_p : class_after t class p ≡ class t.other = rw b refl in
    number_cases (class q) (class t.one)
    (λ in_q d. inl (one q end_q in_q ∙ sym (one p end_p in_p)))
    (λ out_q d.
    let at_other : class q ≡ class t.other = sym (merged_other (class t.one) (class t.other) (class q) out_q) ∙ (sym e ∙ new_p) in
    inr (other q end_q at_other ∙ (sym (far_one t far) ∙ ap (λ (x : ℕ). joined t far x) (sym (one p end_p in_p))))))
    (λ out_p b.
    let same_p : class_after t class p ≡ class p = merged_other (class t.one) (class t.other) (class p) out_p in
    number_cases (class q) (class t.one)
    (λ in_q d.
    let new_q : class_after t class q ≡ class t.other = rw d refl in
    let at_other : class p ≡ class t.other = sym same_p ∙ (e ∙ new_q) in
    inr (one q end_q in_q ∙ (sym (far_other t far) ∙ ap (λ (x : ℕ). joined t far x) (sym (other p end_p at_other)))))
    (λ out_q d.
    let same : class p ≡ class q = sym same_p ∙ (e ∙ merged_other (class t.one) (class t.other) (class q) out_q) in
    let old_p : touches p ts ≤ 1 = (let m = touched_more t ts p in omega (arith, m, end_p)) in
    let old_q : touches q ts ≤ 1 = (let m = touched_more t ts q in omega (arith, m, end_q)) in
    elim (k.pairs p q old_p old_q same) [
      | inl is ↦ inl is
      | inr is ↦
          number_cases p (far t.other)
          (λ at f.
          let class_q : class q ≡ class t.other = sym same ∙ (ap (λ (x : ℕ). class x) at ∙ k.of_far t.other) in
          inl (other q end_q class_q ∙ sym at))
          (λ h f. inr (is ∙ sym (far_rest t far p h (λ at. out_p (ap (λ (x : ℕ). class x) at ∙ k.of_far t.one)))))
    ]))

alone_after : (t : Bond) (ts : List Bond) (far class : ℕ → ℕ) → Classed ts far class
    → touches t.one (t ∷ ts) ≤ 2 → touches t.other (t ∷ ts) ≤ 2 → (p : ℕ) → touches p (t ∷ ts) ≡ 0 → joined t far p ≡ p
alone_after t ts far class k few_one few_other p none =
    let old : touches p ts ≡ 0 = (let m = touched_more t ts p in omega (arith, m, none)) in
    let old_p : touches p ts ≤ 1 = omega (arith, old) in
    let own_one : touches t.one ts ≤ 1 = (let m = touched_one t ts in omega (arith, m, few_one)) in
    let own_other : touches t.other ts ≤ 1 = (let m = touched_other t ts in omega (arith, m, few_other)) in
    let not_one : p ≢ t.one = (λ e. let z : touches t.one (t ∷ ts) ≡ 0 = subst (λ (q : ℕ). touches q (t ∷ ts) ≡ 0) e none in
    let m = touched_one t ts in absurd (omega (arith, m, z))) in
    let not_other : p ≢ t.other = (λ e. let z : touches t.other (t ∷ ts) ≡ 0 = subst (λ (q : ℕ). touches q (t ∷ ts) ≡ 0) e none in
    let m = touched_other t ts in absurd (omega (arith, m, z))) in
    let still : far p ≡ p = k.alone p old in
    far_rest t far p
    (λ at. elim (k.pairs p t.other old_p own_other (ap (λ (x : ℕ). class x) at ∙ k.of_far t.other))
    [ inl e ↦ not_other (sym e) | inr e ↦ not_other (sym (e ∙ still)) ])
    (λ at. elim (k.pairs p t.one old_p own_one (ap (λ (x : ℕ). class x) at ∙ k.of_far t.one))
    [ inl e ↦ not_one (sym e) | inr e ↦ not_one (sym (e ∙ still)) ])
    ∙ still

reached_after : (t : Bond) (ts : List Bond) (far class : ℕ → ℕ) → Classed ts far class → (p : ℕ) → Leads (t ∷ ts) p (joined t far p)
reached_after t ts far class k p =
    let to_one : Leads (t ∷ ts) t.one (far t.one) = leads_more t ts t.one (far t.one) (k.reached t.one) in
    let to_other : Leads (t ∷ ts) t.other (far t.other) = leads_more t ts t.other (far t.other) (k.reached t.other) in
    let across : Leads (t ∷ ts) t.one t.other = goes t.one t.other t.other (inl refl) (stays t.other) in
    let whole : Leads (t ∷ ts) (far t.one) (far t.other) =
    leads_on (far t.one) t.one (far t.other) (leads_back (t ∷ ts) t.one (far t.one) to_one) (leads_on t.one t.other (far t.other) across to_other)
    in
    number_cases p (far t.other)
    (λ e b. subst (λ (x : ℕ). Leads (t ∷ ts) x (joined t far x)) (sym e)
    (subst (λ (x : ℕ). Leads (t ∷ ts) (far t.other) x) (sym (far_other t far)) (leads_back (t ∷ ts) (far t.one) (far t.other) whole)))
    (λ h b. number_cases p (far t.one)
    (λ e g. subst (λ (x : ℕ). Leads (t ∷ ts) x (joined t far x)) (sym e)
    (subst (λ (x : ℕ). Leads (t ∷ ts) (far t.one) x) (sym (far_one t far)) whole))
    (λ g d. subst (λ (x : ℕ). Leads (t ∷ ts) p x) (sym (far_rest t far p h g)) (leads_more t ts p (far p) (k.reached p))))

classed_after : (t : Bond) (ts : List Bond) (far class : ℕ → ℕ) → Classed ts far class
    → touches t.one (t ∷ ts) ≤ 2 → touches t.other (t ∷ ts) ≤ 2 → Classed (t ∷ ts) (joined t far) (class_after t class)
classed_after t ts far class k few_one few_other =
    record {
      joins = joins_after t ts far class k;
      of_far = of_far_after t ts far class k;
      pairs = pairs_after t ts far class k few_one few_other;
      alone = alone_after t ts far class k few_one few_other;
      reached = reached_after t ts far class k;
    }

-- numbers of one class, along bonds
leads_class : (ts : List Bond) (far class : ℕ → ℕ) → Classed ts far class → (a b : ℕ) → Leads ts a b → class a ≡ class b
leads_class ts far class k a b (stays _) = refl
leads_class ts far class k a b (goes _ c _ j l) = k.joins a c j ∙ leads_class ts far class k c b l

-- far numbers, with some classes
abbrev pub AreClassed : List Bond → (ℕ → ℕ) → Type 0
AreClassed ts far = (class : ℕ → ℕ) × Classed ts far class

-- with no bond each number is its own
pub classed_alone : (far : ℕ → ℕ) → ((p : ℕ) → far p ≡ p) → AreClassed [] far
classed_alone far own = (
  λ p. p,
  record {
    joins = λ a b j. absurd j;
    of_far = own;
    pairs = λ p q u v e. inl (sym e);
    alone = λ p u. own p;
    reached = λ p. subst (λ (x : ℕ). Leads [] p x) (sym (own p)) (stays p);
  },
)

touched_part : (ts : List Bond) (k p : ℕ) → touches p (drop k ts) ≤ touches p ts
touched_part [] zero p = omega arith
touched_part [] (suc k) p = omega arith
touched_part (t ∷ ts) zero p = omega arith
touched_part (t ∷ ts) (suc k) p = let rest = touched_part ts k p in let more = touched_more t ts p in omega (arith, rest, more)

-- the bond before those that were joined is joined too
pub one_joined : (ts : List Bond) (j : ℕ) (t : Bond) (far new : ℕ → ℕ) → drop j ts ≡ t ∷ drop (suc j) ts → ((p : ℕ) → touches p ts ≤ 2)
    → AreClassed (drop (suc j) ts) far → ((p : ℕ) → new p ≡ joined t far p) → AreClassed (drop j ts) new
one_joined ts j t far new e few (class, k) is =
    let part : (p : ℕ) → touches p (t ∷ drop (suc j) ts) ≤ 2 =
    (λ p. let whole = few p in let some : touches p (t ∷ drop (suc j) ts) ≤ touches p ts = subst (λ (us : List Bond). touches p us ≤ touches p ts) e (touched_part ts j p) in
    omega (arith, whole, some))
    in
    let all : joined t far ≡ new = (λ i p. sym (is p) i) in
    subst (λ (us : List Bond). AreClassed us new) (sym e)
    (subst (λ (f : ℕ → ℕ). AreClassed (t ∷ drop (suc j) ts) f) all
    (class_after t class, classed_after t (drop (suc j) ts) far class k (part t.one) (part t.other)))

-- what classes say in the end
pub far_of_classed : (ts : List Bond) (far : ℕ → ℕ) → AreClassed ts far → AreFar ts far
far_of_classed ts far (class, k) =
    record { reached = k.reached; only = λ p q u v l. k.pairs p q u v (leads_class ts far class k p q l); alone = k.alone }

-- far numbers stay in range
pub joined_below : (t : Bond) (far new : ℕ → ℕ) (n : ℕ) → t.one < n → t.other < n → ((p : ℕ) → p < n → far p < n)
    → ((p : ℕ) → new p ≡ joined t far p) → (p : ℕ) → p < n → new p < n
joined_below t far new n one other range is p low =
    rw (is p)
    (number_cases p (far t.other) (λ e b. rw b (range t.one one))
    (λ h b. rw b (number_cases p (far t.one) (λ e d. rw d (range t.other other)) (λ g d. rw d (range p low)))))

pub below_at : (n : ℕ) (ts : List Bond) (j : ℕ) (t : Bond) (us : List Bond) → AreBelow n ts → drop j ts ≡ t ∷ us → (t.one < n) × (t.other < n)
below_at n [] zero t us b e = cc
below_at n [] (suc j) t us b e = cc
below_at n (s ∷ ts) zero t us b e = let c : AreBelow n (t ∷ us) = subst (λ (vs : List Bond). AreBelow n vs) e b in (c.0, c.1)
below_at n (s ∷ ts) (suc j) t us (a, c, b) e = below_at n ts j t us b e
