-- What each form's own flows have, and what the points see where its parts lead.
--
-- Read first: SightLemmas; Typed of gos_compile.
use Rattle.std.specs.Prelude.{◌≡◌, ℕ, zero, suc, ◌+◌, ◌-◌, List, [], ◌∷◌, ◌++◌, length, take, drop, Some, slice_get}
use Rattle.std.proofs.Common.{refl, sym, ◌∙◌, ap, subst, arith, inl}
use Rattle.gos_types.specs.Types.{Type', Com, Exp, Var, Pair, Fun, IsDone}
use Rattle.gos_model.specs.Terms as terms
use Rattle.gos_model.specs.Terms.{Term, result_width}
use Rattle.gos_model.specs.Typing.{Imports, array_type, index_width}
use Rattle.gos_check.specs.declared.linear.Split.{Split}
use Rattle.gos_check.specs.Nodes.{Binding, OfFun, OfNew, OfArray, OneForm, OfFst, OfSnd, OfDeref, OfNot, TwoForm, OfApp, OfBoth, OfSeq, OfPar, OfWhile, OfAssign, OfBin}
use Rattle.gos_plan.specs.Kinds as kinds
use Rattle.gos_plan.specs.Kinds.{Part, Contact, asks, serves, contacts_of, other_side, part_contacts}
use Rattle.gos_plan.proofs.SideLemmas.{sides_turn_back}
use Rattle.gos_ties.specs.declared.points.Place.{Place}
use Rattle.gos_ties.specs.declared.points.Place.TheVariants as places
use Rattle.gos_ties.specs.declared.points.Point.{Point}
use Rattle.gos_ties.specs.declared.points.Tie.{Tie}
use Rattle.gos_ties.specs.Ties.{point}
use Rattle.gos_realises.specs.realises.Regular.{count}
use Rattle.gos_realises.proofs.realises.CountLemmas.{count_pair}
use Rattle.gos_compile.specs.Wiring.{Types, row, led, answer_bits, shares, closed_part, binder_part, one_part, two_part, share_ties, shares_ties, binder_ties, binder_out, one_ties, one_out, two_ties, first_out, second_out}
use Rattle.gos_compile.specs.Typed.{SidesTyped, ClosedTyped, BinderTyped, OneTyped, TwoTyped, ChoiceTyped}
use Rattle.gos_terms.proofs.wired.FlowLemmas.{Flow}
use Rattle.gos_terms.proofs.wired.FlowedLemmas.{seen, flowing, share_flows, shares_flows, binder_flows, one_flows, two_flows}
use Rattle.gos_terms.proofs.wired.OutLemmas.{seen_pair, seen_fun, seen_length}
use Rattle.gos_terms.proofs.wired.SightLemmas as sight

-- the handshakes that meet within a node
abbrev pub one_table : OneForm → Type' → Type' → List Contact
one_table OfFst t u = drop (count t) (seen u)
one_table OfSnd t u = take (count u - count t) (seen u)
one_table OfDeref t u = drop 1 (seen u)
one_table OfNot t u = []

abbrev pub two_table : TwoForm → Type' → Type' → List Contact
two_table OfApp u v = contacts_of v
two_table OfAssign u v = take 1 (seen u)
two_table f u v = []

drop_front : (n : ℕ) (cs ds : List Contact) → n ≡ length cs → drop n (cs ++ ds) ≡ ds
drop_front zero [] [] e = refl
drop_front zero [] (d ∷ ds) e = refl
drop_front zero (c ∷ cs) ds e = absurd (omega (arith, e))
drop_front (suc n) [] ds e = absurd (omega (arith, e))
drop_front (suc n) (c ∷ cs) ds e = drop_front n cs ds (omega (arith, e))

take_front : (n : ℕ) (cs ds : List Contact) → n ≡ length cs → take n (cs ++ ds) ≡ cs
take_front zero [] [] e = refl
take_front zero [] (d ∷ ds) e = refl
take_front zero (c ∷ cs) ds e = absurd (omega (arith, e))
take_front (suc n) [] ds e = absurd (omega (arith, e))
take_front (suc n) (c ∷ cs) ds e = ap (λ (xs : List Contact). c ∷ xs) (take_front n cs ds (omega (arith, e)))

module _ (parts : List Part) (is : Imports) (outcome : Type') (types : Types) (table : ℕ → List Contact) where
  abbrev Has : Place → ℕ → Contact → Type 0
  Has = sight.Has parts is outcome types table

  abbrev See : List Contact → List Point → Type 0
  See = sight.See parts is outcome types table

  abbrev Offers : Place → ℕ → List Contact → Type 0
  Offers = sight.Offers parts is outcome types table

  abbrev Good : List Flow → List Tie → Type 0
  Good = sight.Good parts is outcome types table

  abbrev PartsAt : ℕ → List Part → Type 0
  PartsAt = sight.PartsAt parts is outcome types table

  has_part : (i h : ℕ) (x : Part) (c : Contact) → PartsAt i (x ∷ []) → slice_get (part_contacts x) h ≡ Some c → Has (places.Part i) h c
  has_part i h x c all at = sight.part_has parts is outcome types table i h x [] c all at

  led_good : (cs : List Contact) (ps : List Point) (q : Place) (h : ℕ) → See cs ps → Offers q h (other_side cs) → Good (flowing cs ps q h) (led ps q h)
  led_good = sight.good_led parts is outcome types table

  one_offered : (q : Place) (h : ℕ) (c : Contact) → Has q h c → Offers q h (c ∷ [])
  one_offered = sight.one_offer parts is outcome types table

  -- Shares
  offers_front : (q : Place) (h : ℕ) (cs ds : List Contact) → Offers q h (cs ++ ds) → Offers q h cs
  offers_front q h cs ds offers k c at = offers k c (front cs ds k c at)
    where
      front : (xs ys : List Contact) (i : ℕ) (x : Contact) → slice_get xs i ≡ Some x → slice_get (xs ++ ys) i ≡ Some x
      front [] ys i x e = absurd (cc e)
      front (y ∷ xs) ys zero x e = e
      front (y ∷ xs) ys (suc i) x e = front xs ys i x e

  offers_behind : (q : Place) (h n : ℕ) (cs ds : List Contact) → n ≡ length cs → Offers q h (cs ++ ds) → Offers q (h + n) ds
  offers_behind q h n cs ds e offers k c at =
      let sum : h + (length cs + k) ≡ h + n + k = omega (arith, e) in
      subst (λ (i : ℕ). Has q i c) sum (offers (length cs + k) c (behind cs ds k ∙ at))
    where
      behind : (xs ys : List Contact) (i : ℕ) → slice_get (xs ++ ys) (length xs + i) ≡ slice_get ys i
      behind [] ys i = let zeros : 0 + i ≡ i = omega arith in ap (slice_get ys) zeros
      behind (x ∷ xs) ys i =
          let sum : suc (length xs) + i ≡ suc (length xs + i) = omega arith in ap (slice_get (x ∷ (xs ++ ys))) sum ∙ behind xs ys i

  part_offers : (i : ℕ) (x : Part) (ls : List Part) → PartsAt i (x ∷ ls) → Offers (places.Part i) 0 (part_contacts x)
  part_offers i x ls all k c at =
      let zeros : 0 + k ≡ k = omega arith in
      sight.part_has parts is outcome types table i (0 + k) x ls c all (ap (slice_get (part_contacts x)) zeros ∙ at)

  share_good : (i : ℕ) (s : Split) (ls : List Part) → types s.left ≡ types s.of → types s.right ≡ types s.of → PartsAt i (kinds.Share (types s.of) ∷ ls)
      → Good (share_flows i (types s.of) s) (share_ties i (count (types s.of)) s)
  share_good i s ls left right all =
      sight.good_two parts is outcome types table (flowing cs (row (places.Number s.of) 0 n) (places.Part i) 0)
      (flowing (seen t) (row (places.Number s.left) 0 n) (places.Part i) n ++ flowing (seen t) (row (places.Number s.right) 0 n) (places.Part i) (n + n))
      (led (row (places.Number s.of) 0 n) (places.Part i) 0)
      (led (row (places.Number s.left) 0 n) (places.Part i) n ++ led (row (places.Number s.right) 0 n) (places.Part i) (n + n))
      (led_good cs (row (places.Number s.of) 0 n) (places.Part i) 0
      (sight.see_row parts is outcome types table (places.Number s.of) 0 cs n refl (sight.used_offers parts is outcome types table s.of t refl))
      (offers_front (places.Part i) 0 (seen t) (cs ++ cs) whole))
      (sight.good_two parts is outcome types table (flowing (seen t) (row (places.Number s.left) 0 n) (places.Part i) n)
      (flowing (seen t) (row (places.Number s.right) 0 n) (places.Part i) (n + n)) (led (row (places.Number s.left) 0 n) (places.Part i) n)
      (led (row (places.Number s.right) 0 n) (places.Part i) (n + n))
      (led_good (seen t) (row (places.Number s.left) 0 n) (places.Part i) n (side s.left left) at_left)
      (led_good (seen t) (row (places.Number s.right) 0 n) (places.Part i) (n + n) (side s.right right) at_right))
    where
      t : Type'
      t = types s.of

      cs : List Contact
      cs = contacts_of (types s.of)

      n : ℕ
      n = count (types s.of)

      whole : Offers (places.Part i) 0 (seen (types s.of) ++ (contacts_of (types s.of) ++ contacts_of (types s.of)))
      whole = part_offers i (kinds.Share (types s.of)) ls all

      side : (k : ℕ) → types k ≡ types s.of → See (seen (types s.of)) (row (places.Number k) 0 (count (types s.of)))
      side k e =
          sight.see_row parts is outcome types table (places.Number k) 0 (seen (types s.of)) (count (types s.of)) (sym (seen_length (types s.of)))
          (sight.made_offers parts is outcome types table k (types s.of) (sym e))

      both : Offers (places.Part i) (count (types s.of)) (contacts_of (types s.of) ++ contacts_of (types s.of))
      both =
          let zeros : 0 + count (types s.of) ≡ count (types s.of) = omega arith in
          subst (λ (h : ℕ). Offers (places.Part i) h (contacts_of (types s.of) ++ contacts_of (types s.of))) zeros
          (offers_behind (places.Part i) 0 (count (types s.of)) (seen (types s.of)) (contacts_of (types s.of) ++ contacts_of (types s.of)) (sym (seen_length (types s.of))) whole)

      at_left : Offers (places.Part i) (count (types s.of)) (other_side (seen (types s.of)))
      at_left =
          subst (λ (ds : List Contact). Offers (places.Part i) (count (types s.of)) ds) (sym (sides_turn_back (contacts_of (types s.of))))
          (offers_front (places.Part i) (count (types s.of)) (contacts_of (types s.of)) (contacts_of (types s.of)) both)

      at_right : Offers (places.Part i) (count (types s.of) + count (types s.of)) (other_side (seen (types s.of)))
      at_right =
          subst (λ (ds : List Contact). Offers (places.Part i) (count (types s.of) + count (types s.of)) ds) (sym (sides_turn_back (contacts_of (types s.of))))
          (offers_behind (places.Part i) (count (types s.of)) (count (types s.of)) (contacts_of (types s.of)) (contacts_of (types s.of)) refl both)

  pub shares_good : (i : ℕ) (ss : List Split) → SidesTyped types ss → PartsAt i (shares ss types) → Good (shares_flows i ss types) (shares_ties i ss types)
  shares_good i [] sides all = sight.good_none parts is outcome types table
  shares_good i (s ∷ ss) (left, right, sides) all =
      let rest : PartsAt (suc i) (shares ss types) = (let sum : i + 1 ≡ suc i = omega arith in
      subst (λ (k : ℕ). PartsAt k (shares ss types)) sum
      (sight.parts_behind parts is outcome types table i 1 (kinds.Share (types s.of) ∷ []) (shares ss types) refl all))
      in
      sight.good_two parts is outcome types table (share_flows i (types s.of) s) (shares_flows (suc i) ss types)
      (share_ties i (count (types s.of)) s) (shares_ties (suc i) ss types) (share_good i s (shares ss types) left right all)
      (shares_good (suc i) ss sides rest)

  -- closed nodes
  pub closed_good : (c : Term) (t : Type') (i : ℕ) (out : List Point) → ClosedTyped c t → PartsAt i (closed_part c) → See (seen t) out
      → Good (flowing (seen t) out (places.Part i) 0) (led out (places.Part i) 0)
  closed_good terms.Skip t i out e all =
      subst (λ (x : Type'). See (seen x) out → Good (flowing (seen x) out (places.Part i) 0) (led out (places.Part i) 0)) (sym e)
      (λ see. led_good (seen Com) out (places.Part i) 0 see
      (one_offered (places.Part i) 0 (serves 0 0) (has_part i 0 kinds.Skip (serves 0 0) all refl)))
  closed_good (terms.Lit k w) t i out e all =
      subst (λ (x : Type'). See (seen x) out → Good (flowing (seen x) out (places.Part i) 0) (led out (places.Part i) 0)) (sym e)
      (λ see. led_good (seen (Exp w)) out (places.Part i) 0 see
      (one_offered (places.Part i) 0 (serves 0 w) (has_part i 0 (kinds.Lit w k) (serves 0 w) all refl)))
  closed_good c t i out e all = absurd e

  -- binders
  fun_good : (a u : Type') (i n : ℕ) (out : List Point) → types n ≡ a → See (seen (Fun a u)) out
      → Good (binder_flows OfFun (Fun a u) i n out) (binder_ties OfFun (Fun a u) i n out) × See (seen u) (binder_out OfFun (Fun a u) i out)
  fun_good a u i n out e see =
      let split : See (contacts_of a ++ seen u) out = subst (λ (cs : List Contact). See cs out) (seen_fun a u) see in
      let taken : List Point = take (count a) out in
      let sees : See (contacts_of a) taken = sight.see_take parts is outcome types table (count a) (contacts_of a) (seen u) out refl split in
      let few = sight.see_length parts is outcome types table (contacts_of a) taken sees in
      let same : flowing (seen (Fun a u)) taken (places.Number n) 0 ≡ flowing (contacts_of a) taken (places.Number n) 0 =
      ap (λ (cs : List Contact). flowing cs taken (places.Number n) 0) (seen_fun a u)
      ∙ sight.flowing_front parts is outcome types table (contacts_of a) (seen u) taken (places.Number n) 0 (omega (arith, few))
      in (
        subst (λ (fs : List Flow). Good fs (led taken (places.Number n) 0)) (sym same)
            (led_good (contacts_of a) taken (places.Number n) 0 sees (sight.made_offers parts is outcome types table n a (sym e))),
        sight.see_drop parts is outcome types table (count a) (contacts_of a) (seen u) out refl split,
      )

  new_good : (w v : ℕ) (t : Type') (i n : ℕ) (out : List Point) → seen t ≡ asks 0 v ∷ [] → answer_bits t ≡ v → types n ≡ Var w
      → PartsAt i (kinds.Local w v ∷ []) → See (seen t) out
      → Good (binder_flows (OfNew w) t i n out) (binder_ties (OfNew w) t i n out) × See (seen t) (binder_out (OfNew w) t i out)
  new_good w v t i n out is_seen bits e all see = (
    sight.good_two parts is outcome types table (flowing (seen t) out (places.Part i) 3) (flowing (seen (Var w)) (row (places.Number n) 0 2) (places.Part i) 1)
        (led out (places.Part i) 3) (led (row (places.Number n) 0 2) (places.Part i) 1)
        (led_good (seen t) out (places.Part i) 3 see
        (subst (λ (cs : List Contact). Offers (places.Part i) 3 (other_side cs)) (sym is_seen)
        (one_offered (places.Part i) 3 (serves 0 v) (has_part i 3 (kinds.Local w v) (serves 0 v) all refl))))
        (led_good (seen (Var w)) (row (places.Number n) 0 2) (places.Part i) 1
        (sight.see_row parts is outcome types table (places.Number n) 0 (seen (Var w)) 2 refl
        (sight.made_offers parts is outcome types table n (Var w) (sym e)))
        (sight.two_offers parts is outcome types table (places.Part i) 1 (serves 0 w) (serves w 0)
        (has_part i 1 (kinds.Local w v) (serves 0 w) all refl) (has_part i 2 (kinds.Local w v) (serves w 0) all refl))),
    subst (λ (cs : List Contact). See cs (point (places.Part i) 0 ∷ [])) (sym is_seen)
        (has_part i 0 (kinds.Local w v) (asks 0 v) all refl, tt),
  )

  array_good : (c w v : ℕ) (t : Type') (i n : ℕ) (out : List Point) → seen t ≡ asks 0 v ∷ [] → answer_bits t ≡ v → types n ≡ array_type c w
      → PartsAt i (kinds.Array w c v ∷ []) → See (seen t) out
      → Good (binder_flows (OfArray c w) t i n out) (binder_ties (OfArray c w) t i n out) × See (seen t) (binder_out (OfArray c w) t i out)
  array_good c w v t i n out is_seen bits e all see = (
    sight.good_two parts is outcome types table (flowing (seen t) out (places.Part i) 4)
        (flowing (seen (array_type c w)) (row (places.Number n) 0 3) (places.Part i) 1)
        (led out (places.Part i) 4) (led (row (places.Number n) 0 3) (places.Part i) 1)
        (led_good (seen t) out (places.Part i) 4 see
        (subst (λ (cs : List Contact). Offers (places.Part i) 4 (other_side cs)) (sym is_seen)
        (one_offered (places.Part i) 4 (serves 0 v) (has_part i 4 (kinds.Array w c v) (serves 0 v) all refl))))
        (led_good (seen (array_type c w)) (row (places.Number n) 0 3) (places.Part i) 1
        (sight.see_row parts is outcome types table (places.Number n) 0 (seen (array_type c w)) 3 refl
        (sight.made_offers parts is outcome types table n (array_type c w) (sym e)))
        (sight.three_offers parts is outcome types table (places.Part i) 1 (asks 0 (index_width c)) (serves 0 w) (serves w 0)
        (has_part i 1 (kinds.Array w c v) (asks 0 (index_width c)) all refl)
        (has_part i 2 (kinds.Array w c v) (serves 0 w) all refl) (has_part i 3 (kinds.Array w c v) (serves w 0) all refl))),
    subst (λ (cs : List Contact). See cs (point (places.Part i) 0 ∷ [])) (sym is_seen)
        (has_part i 0 (kinds.Array w c v) (asks 0 v) all refl, tt),
  )

  pub binder_good : (b : Binding) (t u : Type') (i n : ℕ) (out : List Point) → BinderTyped types b t n u → PartsAt i (binder_part b t) → See (seen t) out
      → Good (binder_flows b t i n out) (binder_ties b t i n out) × See (seen u) (binder_out b t i out)
  binder_good OfFun t u i n out e all see =
      subst (λ (x : Type'). See (seen x) out → Good (binder_flows OfFun x i n out) (binder_ties OfFun x i n out) × See (seen u) (binder_out OfFun x i out))
      (sym e) (λ sees. fun_good (types n) u i n out refl sees) see
  binder_good (OfNew w) Com u i n out (done, there, body) all see =
      let both = new_good w 0 Com i n out refl refl there all see in
      (both.0, subst (λ (x : Type'). See (seen x) (point (places.Part i) 0 ∷ [])) (sym body) both.1)
  binder_good (OfNew w) (Exp v) u i n out (done, there, body) all see =
      let both = new_good w v (Exp v) i n out refl refl there all see in
      (both.0, subst (λ (x : Type'). See (seen x) (point (places.Part i) 0 ∷ [])) (sym body) both.1)
  binder_good (OfNew w) (Var v) u i n out (done, there, body) all see = absurd done
  binder_good (OfNew w) (Pair a b) u i n out (done, there, body) all see = absurd done
  binder_good (OfNew w) (Fun a b) u i n out (done, there, body) all see = absurd done
  binder_good (OfArray c w) Com u i n out (done, there, body) all see =
      let both = array_good c w 0 Com i n out refl refl there all see in
      (both.0, subst (λ (x : Type'). See (seen x) (point (places.Part i) 0 ∷ [])) (sym body) both.1)
  binder_good (OfArray c w) (Exp v) u i n out (done, there, body) all see =
      let both = array_good c w v (Exp v) i n out refl refl there all see in
      (both.0, subst (λ (x : Type'). See (seen x) (point (places.Part i) 0 ∷ [])) (sym body) both.1)
  binder_good (OfArray c w) (Var v) u i n out (done, there, body) all see = absurd done
  binder_good (OfArray c w) (Pair a b) u i n out (done, there, body) all see = absurd done
  binder_good (OfArray c w) (Fun a b) u i n out (done, there, body) all see = absurd done

  -- forms of one part
  abbrev OneGood : OneForm → Type' → Type' → ℕ → ℕ → List Point → Type 0
  OneGood f t u i j out =
      table j ≡ one_table f t u → PartsAt i (one_part f t) → See (seen t) out
      → Good (one_flows f t i out) (one_ties f i out) × See (seen u) (one_out f t u i j out)

  fst_good : (t b : Type') (i j : ℕ) (out : List Point) → OneGood OfFst t (Pair t b) i j out
  fst_good t b i j out tab all see =
      let sum = count_pair t b in
      let first = seen_length t in
      let rest = seen_length b in
      let there : table j ≡ seen b = tab ∙ (ap (drop (count t)) (seen_pair t b) ∙ drop_front (count t) (seen t) (seen b) (sym first)) in
      let size : count (Pair t b) - count t ≡ length (seen b) = omega (arith, sum, rest) in (
        sight.good_none parts is outcome types table,
        subst (λ (cs : List Contact). See cs (out ++ row (places.Node j) 0 (count (Pair t b) - count t))) (sym (seen_pair t b))
            (sight.see_two parts is outcome types table (seen t) (seen b) out (row (places.Node j) 0 (count (Pair t b) - count t)) see
            (sight.see_row parts is outcome types table (places.Node j) 0 (seen b) (count (Pair t b) - count t) size
            (sight.node_offers parts is outcome types table j (seen b) there))),
      )

  snd_good : (a t : Type') (i j : ℕ) (out : List Point) → OneGood OfSnd t (Pair a t) i j out
  snd_good a t i j out tab all see =
      let sum = count_pair a t in
      let first = seen_length a in
      let size : count (Pair a t) - count t ≡ length (seen a) = omega (arith, sum, first) in
      let there : table j ≡ seen a =
      tab ∙ (ap (take (count (Pair a t) - count t)) (seen_pair a t) ∙ take_front (count (Pair a t) - count t) (seen a) (seen t) size)
      in (
        sight.good_none parts is outcome types table,
        subst (λ (cs : List Contact). See cs (row (places.Node j) 0 (count (Pair a t) - count t) ++ out)) (sym (seen_pair a t))
            (sight.see_two parts is outcome types table (seen a) (seen t) (row (places.Node j) 0 (count (Pair a t) - count t)) out
            (sight.see_row parts is outcome types table (places.Node j) 0 (seen a) (count (Pair a t) - count t) size
            (sight.node_offers parts is outcome types table j (seen a) there)) see),
      )

  node_has : (j : ℕ) (c : Contact) → table j ≡ c ∷ [] → Has (places.Node j) 0 c
  node_has j c e = inl (ap (λ (cs : List Contact). slice_get cs 0) e)

  deref_good : (w i j : ℕ) (out : List Point) → OneGood OfDeref (Exp w) (Var w) i j out
  deref_good w i j out tab all see = (
    led_good (seen (Exp w)) out (places.Part i) 1 see
        (one_offered (places.Part i) 1 (serves 0 w) (has_part i 1 (kinds.Deref w) (serves 0 w) all refl)),
    (has_part i 0 (kinds.Deref w) (asks 0 w) all refl, (node_has j (asks w 0) tab, tt)),
  )

  not_good : (w i j : ℕ) (out : List Point) → OneGood OfNot (Exp w) (Exp w) i j out
  not_good w i j out tab all see = (
    led_good (seen (Exp w)) out (places.Part i) 1 see
        (one_offered (places.Part i) 1 (serves 0 w) (has_part i 1 (kinds.Not w) (serves 0 w) all refl)),
    (has_part i 0 (kinds.Not w) (asks 0 w) all refl, tt),
  )

  pub one_good : (f : OneForm) (t u : Type') (i j : ℕ) (out : List Point) → OneTyped f t u → OneGood f t u i j out
  one_good OfFst t u i j out (b, e) = subst (λ (x : Type'). OneGood OfFst t x i j out) (sym e) (fst_good t b i j out)
  one_good OfSnd t u i j out (a, e) = subst (λ (x : Type'). OneGood OfSnd t x i j out) (sym e) (snd_good a t i j out)
  one_good OfDeref t u i j out (w, e, f) =
      subst (λ (x : Type'). OneGood OfDeref x u i j out) (sym e)
      (subst (λ (y : Type'). OneGood OfDeref (Exp w) y i j out) (sym f) (deref_good w i j out))
  one_good OfNot t u i j out (w, e, f) =
      subst (λ (x : Type'). OneGood OfNot x u i j out) (sym e) (subst (λ (y : Type'). OneGood OfNot (Exp w) y i j out) (sym f) (not_good w i j out))

  -- forms of two parts
  abbrev TwoGood : TwoForm → Type' → Type' → Type' → ℕ → ℕ → List Point → Type 0
  TwoGood f t u v i j out =
      table j ≡ two_table f u v → PartsAt i (two_part f t v) → See (seen t) out
      → Good (two_flows f t i out) (two_ties f i out) × See (seen u) (first_out f u v i j out) × See (seen v) (second_out f u v i j out)

  app_good : (t v : Type') (i j : ℕ) (out : List Point) → TwoGood OfApp t (Fun v t) v i j out
  app_good t v i j out tab all see = (
    sight.good_none parts is outcome types table,
    subst (λ (cs : List Contact). See cs (row (places.Node j) 0 (count v) ++ out)) (sym (seen_fun v t))
        (sight.see_two parts is outcome types table (contacts_of v) (seen t) (row (places.Node j) 0 (count v)) out
        (sight.see_row parts is outcome types table (places.Node j) 0 (contacts_of v) (count v) refl
        (sight.node_offers parts is outcome types table j (contacts_of v) tab)) see),
    sight.see_row parts is outcome types table (places.Node j) 0 (seen v) (count v) (sym (seen_length v))
        (sight.node_offers_back parts is outcome types table j (contacts_of v) tab),
  )

  both_good : (u v : Type') (i j : ℕ) (out : List Point) → TwoGood OfBoth (Pair u v) u v i j out
  both_good u v i j out tab all see =
      let split : See (seen u ++ seen v) out = subst (λ (cs : List Contact). See cs out) (seen_pair u v) see in (
        sight.good_none parts is outcome types table,
        sight.see_take parts is outcome types table (count u) (seen u) (seen v) out (sym (seen_length u)) split,
        sight.see_drop parts is outcome types table (count u) (seen u) (seen v) out (sym (seen_length u)) split,
      )

  -- a part that asks at 0 and at 1, and serves at 2
  driver : (x : Part) (i a b c : ℕ) (out : List Point) → slice_get (part_contacts x) 0 ≡ Some (asks 0 a) → slice_get (part_contacts x) 1 ≡ Some (asks 0 b)
      → slice_get (part_contacts x) 2 ≡ Some (serves 0 c) → PartsAt i (x ∷ []) → See (asks 0 c ∷ []) out
      → Good (flowing (asks 0 c ∷ []) out (places.Part i) 2) (led out (places.Part i) 2)
      × See (asks 0 a ∷ []) (point (places.Part i) 0 ∷ []) × See (asks 0 b ∷ []) (point (places.Part i) 1 ∷ [])
  driver x i a b c out first second served all see = (
    led_good (asks 0 c ∷ []) out (places.Part i) 2 see (one_offered (places.Part i) 2 (serves 0 c) (has_part i 2 x (serves 0 c) all served)),
    (has_part i 0 x (asks 0 a) all first, tt),
    (has_part i 1 x (asks 0 b) all second, tt),
  )

  assign_good : (w i j : ℕ) (out : List Point) → TwoGood OfAssign Com (Var w) (Exp w) i j out
  assign_good w i j out tab all see = (
    led_good (seen Com) out (places.Part i) 2 see
        (one_offered (places.Part i) 2 (serves 0 0) (has_part i 2 (kinds.Assign w) (serves 0 0) all refl)),
    (node_has j (asks 0 w) tab, (has_part i 1 (kinds.Assign w) (asks w 0) all refl, tt)),
    (has_part i 0 (kinds.Assign w) (asks 0 w) all refl, tt),
  )

  seq_good : (t : Type') (i j : ℕ) (out : List Point) → IsDone t → TwoGood OfSeq t Com t i j out
  seq_good Com i j out done tab all see = driver (kinds.Seq 0) i 0 0 0 out refl refl refl all see
  seq_good (Exp w) i j out done tab all see = driver (kinds.Seq w) i 0 w w out refl refl refl all see
  seq_good (Var w) i j out done tab all see = absurd done
  seq_good (Pair a b) i j out done tab all see = absurd done
  seq_good (Fun a b) i j out done tab all see = absurd done

  three : (f : TwoForm) (t u v t' u' v' : Type') (i j : ℕ) (out : List Point) → t ≡ t' → u ≡ u' → v ≡ v' → TwoGood f t' u' v' i j out → TwoGood f t u v i j out
  three f t u v t' u' v' i j out e g h good =
      subst (λ (x : Type'). TwoGood f x u v i j out) (sym e)
      (subst (λ (y : Type'). TwoGood f t' y v i j out) (sym g) (subst (λ (z : Type'). TwoGood f t' u' z i j out) (sym h) good))

  pub two_good : (f : TwoForm) (t u v : Type') (i j : ℕ) (out : List Point) → TwoTyped f t u v → TwoGood f t u v i j out
  two_good OfApp t u v i j out e = three OfApp t u v t (Fun v t) v i j out refl e refl (app_good t v i j out)
  two_good OfBoth t u v i j out e = three OfBoth t u v (Pair u v) u v i j out e refl refl (both_good u v i j out)
  two_good OfSeq t u v i j out (done, e, g) = three OfSeq t u v t Com t i j out refl e g (seq_good t i j out done)
  two_good OfPar t u v i j out (e, g, h) =
      three OfPar t u v Com Com Com i j out e g h (λ tab all see. driver kinds.Par i 0 0 0 out refl refl refl all see)
  two_good OfWhile t u v i j out (e, g, h) =
      three OfWhile t u v Com (Exp 1) Com i j out e g h (λ tab all see. driver kinds.While i 1 0 0 out refl refl refl all see)
  two_good OfAssign t u v i j out (w, e, g, h) = three OfAssign t u v Com (Var w) (Exp w) i j out e g h (assign_good w i j out)
  two_good (OfBin op) t u v i j out (w, e, g, h) =
      three (OfBin op) t u v (Exp (result_width op w)) (Exp w) (Exp w) i j out e g h
      (λ tab all see. driver (kinds.Op op w) i w w (result_width op w) out refl refl refl all see)

  -- choices
  abbrev ChoiceGood : Type' → Type' → Type' → Type' → ℕ → List Point → Type 0
  ChoiceGood t u v x i out =
      PartsAt i (kinds.If (answer_bits t) ∷ []) → See (seen t) out
      → Good (flowing (seen t) out (places.Part i) 3) (led out (places.Part i) 3) × See (seen u) (point (places.Part i) 0 ∷ [])
      × See (seen v) (point (places.Part i) 1 ∷ []) × See (seen x) (point (places.Part i) 2 ∷ [])

  chosen : (b i : ℕ) (out : List Point) → PartsAt i (kinds.If b ∷ []) → See (asks 0 b ∷ []) out
      → Good (flowing (asks 0 b ∷ []) out (places.Part i) 3) (led out (places.Part i) 3) × See (asks 0 1 ∷ []) (point (places.Part i) 0 ∷ [])
      × See (asks 0 b ∷ []) (point (places.Part i) 1 ∷ []) × See (asks 0 b ∷ []) (point (places.Part i) 2 ∷ [])
  chosen b i out all see = (
    led_good (asks 0 b ∷ []) out (places.Part i) 3 see (one_offered (places.Part i) 3 (serves 0 b) (has_part i 3 (kinds.If b) (serves 0 b) all refl)),
    (has_part i 0 (kinds.If b) (asks 0 1) all refl, tt),
    (has_part i 1 (kinds.If b) (asks 0 b) all refl, tt),
    (has_part i 2 (kinds.If b) (asks 0 b) all refl, tt),
  )

  of_done : (t : Type') (i : ℕ) (out : List Point) → IsDone t → ChoiceGood t (Exp 1) t t i out
  of_done Com i out done all see = chosen 0 i out all see
  of_done (Exp w) i out done all see = chosen w i out all see
  of_done (Var w) i out done all see = absurd done
  of_done (Pair a b) i out done all see = absurd done
  of_done (Fun a b) i out done all see = absurd done

  pub choice_good : (t u v x : Type') (i : ℕ) (out : List Point) → ChoiceTyped t u v x → ChoiceGood t u v x i out
  choice_good t u v x i out (done, e, g, h) =
      subst (λ (y : Type'). ChoiceGood t y v x i out) (sym e)
      (subst (λ (y : Type'). ChoiceGood t (Exp 1) y x i out) (sym g)
      (subst (λ (y : Type'). ChoiceGood t (Exp 1) t y i out) (sym h) (of_done t i out done)))
