-- The ends, places, tokens and open handshakes of the plan with the Share, in the one with the two Shares.
use Rattle.std.specs.Prelude.{◌≡◌, ◌≢◌, ℕ, Bool, true, false, ◌⊎◌, Option, Some, None, nat_eq}
use Rattle.std.proofs.Common.{refl, sym, ◌∙◌, ap, subst, arith, inl, inr, if◌then◌else◌}
use Rattle.gos_types.specs.Events.{Direction, Request, Answer}
use Rattle.gos_types.proofs.BoolLemmas.{same_tests}
use Rattle.gos_plan.specs.Firing.{Rest, State, at}
use Rattle.gos_plan.specs.Plans.{End, Joint, Plan, same_end, stands_in}
use Rattle.gos_plan.specs.Tokens.{Tokens, places_of, same_way, with_place, with_state, held_at, with_held, token_at, with_token}
use Rattle.gos_plan.specs.Orderly.{Open, named_by, handshake_at, with_open, after_taken, after_put, ComesWell}
use Rattle.gos_plan.proofs.JointLemmas.{IsIn, same_itself, same_is, found, has_place, stands_there, contained, which_end}
use Rattle.gos_joining.specs.webs.Webs.{joint}
use Rattle.gos_joining.specs.webs.Cutting.{asks_in}
use Rattle.gos_joining.proofs.webs.CutLemmas.{stands_by, asks_one, asks_there, asker_asks, filled_so}
use Rattle.gos_joining.proofs.webs.MovedLemmas.{listed}
use Rattle.gos_sharing.specs.function_types.Split.{Splitting, IsUsed, IsSplit}

-- the tokens of the plan with the two Shares, which are always at their one caller
abbrev pub split : Splitting → Plan → Tokens → Tokens
split f u s =
    record {
      in_place = λ way e. if asks_in u.joints e then s.in_place way (f.end_back e) else None;
      state = λ n. if nat_eq n f.argument then at Rest f.caller else if nat_eq n f.outcome then at Rest f.caller else s.state (f.part_back n);
    }

module _ (f : Splitting) (x u : Plan) (is : IsSplit f x u) where
  abbrev used : End → Type 0
  used = IsUsed f

  pub one_end : (d e : End) → used d → used e → f.end d ≡ f.end e → d ≡ e
  one_end d e own also same = sym (is.returns d own) ∙ (ap f.end_back same ∙ is.returns e also)

  pub same_moved : (d e : End) → used d → used e → same_end (f.end d) (f.end e) ≡ same_end d e
  same_moved d e own also = same_tests (same_end (f.end d) (f.end e)) (same_end d e) to from
    where
      to : same_end (f.end d) (f.end e) ≡ true → same_end d e ≡ true
      to h = subst (λ (y : End). same_end d y ≡ true) (one_end d e own also (same_is (f.end d) (f.end e) h)) (same_itself d)

      from : same_end d e ≡ true → same_end (f.end d) (f.end e) ≡ true
      from h = subst (λ (y : End). same_end (f.end d) (f.end y) ≡ true) (same_is d e h) (same_itself (f.end d))

  asking_used : (d e : End) → IsIn (joint d e) x.joints → used d
  asking_used d e here = is.used d (joint d e, listed x.joints (joint d e) here, stands_by d (joint d e) (inl refl))

  serving_used : (d e : End) → IsIn (joint d e) x.joints → used e
  serving_used d e here = is.used e (joint d e, listed x.joints (joint d e) here, stands_by e (joint d e) (inr refl))

  pub asker_used : (e a : End) → places_of x e ≡ Some a → used a
  asker_used e a there =
      let at = found x.joints e a there in
      asking_used a at.joint.serving (subst (λ (y : End). IsIn (joint y at.joint.serving) x.joints) at.named at.is_in)

  moved_in : (d e : End) → IsIn (joint d e) x.joints → IsIn (joint (f.end d) (f.end e)) u.joints
  moved_in d e here = contained u.joints (joint (f.end d) (f.end e)) (is.joints d e (listed x.joints (joint d e) here))

  -- places
  pub place_there : (e a : End) → places_of x e ≡ Some a → places_of u (f.end e) ≡ Some (f.end a)
  place_there e a there =
      let at = found x.joints e a there in
      stands_there u (joint (f.end at.joint.asking) (f.end at.joint.serving)) (f.end e) is.also_right (moved_in at.joint.asking at.joint.serving at.is_in)
      (stands_by (f.end e) (joint (f.end at.joint.asking) (f.end at.joint.serving)) (carried at.joint (which_end e at.joint at.stands)))
      ∙ ap (λ y. Some (f.end y)) at.named
    where
      carried : (j : Joint) → (e ≡ j.asking) ⊎ (e ≡ j.serving) → (f.end e ≡ f.end j.asking) ⊎ (f.end e ≡ f.end j.serving)
      carried j (inl same) = inl (ap f.end same)
      carried j (inr same) = inr (ap f.end same)

  pub no_place : (e : End) → used e → places_of x e ≡ None → places_of u (f.end e) ≡ None
  no_place e own none = by_place (places_of u (f.end e)) refl
    where
      of_joint : (j : Joint) → IsIn j u.joints → stands_in (f.end e) j ≡ true → ⊥
      of_joint j is_in stands =
          let (d, b, has, at_d, at_b) = is.all j.asking j.serving (listed u.joints j is_in) in
          let here = contained x.joints (joint d b) has in
          has_place x.joints (joint d b) e here
          (stands_by e (joint d b) (elim (which_end (f.end e) j stands) [
            | inl one ↦ inl (one_end e d own (asking_used d b here) (one ∙ sym at_d))
            | inr one ↦ inr (one_end e b own (serving_used d b here) (one ∙ sym at_b))
          ])) none

      by_place : (o : Option End) → places_of u (f.end e) ≡ o → o ≡ None
      by_place None h = refl
      by_place (Some a) h = let at = found u.joints (f.end e) a h in absurd (of_joint at.joint at.is_in at.stands)

  asks_too : (e a : End) → places_of x e ≡ Some a → asks_in u.joints (f.end a) ≡ true
  asks_too e a there = asker_asks u (f.end e) (f.end a) (place_there e a there)

  -- who asks in the other plan asks in this one
  pub record Asking (e : End) : Type 0 where
    pub from : End
    pub is_used : used from
    pub named : f.end from ≡ e
    pub asks : asks_in x.joints from ≡ true

  pub asking_from : (e : End) → asks_in u.joints e ≡ true → Asking e
  asking_from e h =
      let one = asks_one u.joints e h in
      let (d, b, has, at_d, at_b) = is.all one.joint.asking one.joint.serving (listed u.joints one.joint one.is_in) in
      let here = contained x.joints (joint d b) has in
      record { from = d; is_used = asking_used d b here; named = at_d ∙ sym one.asker; asks = asks_there x.joints (joint d b) here }

  -- tokens
  pub token_so : (e : End) → used e → (s : Tokens) (way : Direction) → token_at u (split f u s) (f.end e) way ≡ token_at x s e way
  token_so e own s way = by_place (places_of x e) refl
    where
      by_place : (o : Option End) → places_of x e ≡ o → token_at u (split f u s) (f.end e) way ≡ token_at x s e way
      by_place None none = ap (held_at (split f u s) way) (no_place e own none) ∙ ap (held_at s way) (sym none)
      by_place (Some a) named =
          ap (held_at (split f u s) way) (place_there e a named)
          ∙ (ap (λ (b : Bool). if b then s.in_place way (f.end_back (f.end a)) else None) (asks_too e a named)
          ∙ (ap (s.in_place way) (is.returns a (asker_used e a named)) ∙ ap (held_at s way) (sym named)))

  place_filled : (e a : End) → places_of x e ≡ Some a → (way : Direction) (held : Option ℕ) (s : Tokens)
      → with_place way (f.end a) held (split f u s) ≡ split f u (with_place way a held s)
  place_filled e a named way held s =
      λ n. record {
        in_place = λ w d. filled_so (same_way w way) (same_end d (f.end a)) (same_end (f.end_back d) a) (asks_in u.joints d) held (s.in_place w (f.end_back d)) (same d) (never d) n;
        state = (split f u s).state;
      }
    where
      own : used a
      own = asker_used e a named

      same : (d : End) → asks_in u.joints d ≡ true → same_end (f.end_back d) a ≡ same_end d (f.end a)
      same d asks =
          let at = asking_from d asks in
          subst (λ (y : End). same_end (f.end_back y) a ≡ same_end y (f.end a)) at.named
          (ap (λ (y : End). same_end y a) (is.returns at.from at.is_used) ∙ sym (same_moved at.from a at.is_used own))

      never : (d : End) → asks_in u.joints d ≡ false → same_end d (f.end a) ≡ false
      never d none = by_test (same_end d (f.end a)) refl
        where
          by_test : (b : Bool) → same_end d (f.end a) ≡ b → b ≡ false
          by_test false t = refl
          by_test true t =
              let clash : true ≡ false = sym (asks_too e a named) ∙ (ap (asks_in u.joints) (sym (same_is d (f.end a) t)) ∙ none) in absurd (cc clash)

  pub put_so : (e : End) → used e → (way : Direction) (held : Option ℕ) (s : Tokens) → with_token u (f.end e) way held (split f u s) ≡ split f u (with_token x e way held s)
  put_so e own way held s = by_place (places_of x e) refl
    where
      by_place : (o : Option End) → places_of x e ≡ o → with_token u (f.end e) way held (split f u s) ≡ split f u (with_token x e way held s)
      by_place None none =
          ap (λ o. with_held way o held (split f u s)) (no_place e own none) ∙ ap (λ o. split f u (with_held way o held s)) (sym none)
      by_place (Some a) named =
          ap (λ o. with_held way o held (split f u s)) (place_there e a named)
          ∙ (place_filled e a named way held s ∙ ap (λ o. split f u (with_held way o held s)) (sym named))

  -- states
  apart_eq : (n m : ℕ) → n ≢ m → nat_eq n m ≡ false
  apart_eq n m apart = by_test (nat_eq n m) refl
    where
      by_test : (b : Bool) → nat_eq n m ≡ b → b ≡ false
      by_test false t = refl
      by_test true t = absurd (apart (grind (arith, t)))

  pub part_state : (n : ℕ) → n ≢ f.wide → (s : Tokens) → (split f u s).state (f.part n) ≡ s.state n
  part_state n own s =
      let info = is.parts n own in
      ap (λ (b : Bool). if b then at Rest f.caller else if nat_eq (f.part n) f.outcome then at Rest f.caller else s.state (f.part_back (f.part n))) (apart_eq (f.part n) f.argument info.2)
      ∙ (ap (λ (b : Bool). if b then at Rest f.caller else s.state (f.part_back (f.part n))) (apart_eq (f.part n) f.outcome info.3) ∙ ap s.state info.1)

  stated_so : (n : ℕ) → n ≢ f.wide → (q : State) (s : Tokens) (m : ℕ) (one other here there : Bool) → nat_eq m f.argument ≡ one → nat_eq m f.outcome ≡ other
      → nat_eq m (f.part n) ≡ here → nat_eq (f.part_back m) n ≡ there
      → (if here then q else if one then at Rest f.caller else if other then at Rest f.caller else s.state (f.part_back m))
      ≡ (if one then at Rest f.caller else if other then at Rest f.caller else if there then q else s.state (f.part_back m))
  stated_so n own q s m true other true there is_a is_b is_n is_k = absurd ((is.parts n own).2 (grind (arith, is_a, is_n)))
  stated_so n own q s m true other false there is_a is_b is_n is_k = refl
  stated_so n own q s m false true true there is_a is_b is_n is_k = absurd ((is.parts n own).3 (grind (arith, is_b, is_n)))
  stated_so n own q s m false true false there is_a is_b is_n is_k = refl
  stated_so n own q s m false false true true is_a is_b is_n is_k = refl
  stated_so n own q s m false false false false is_a is_b is_n is_k = refl
  stated_so n own q s m false false true false is_a is_b is_n is_k =
      let same : m ≡ f.part n = grind (arith, is_n) in
      let comes : f.part_back m ≡ n = ap f.part_back same ∙ (is.parts n own).1 in
      let yes : nat_eq (f.part_back m) n ≡ true = grind (arith, comes) in
      let clash : true ≡ false = sym yes ∙ is_k in absurd (cc clash)
  stated_so n own q s m false false false true is_a is_b is_n is_k =
      let back : f.part_back m ≡ n = grind (arith, is_k) in
      let goes = (is.others m (λ e. let t : nat_eq m f.argument ≡ true = grind (arith, e) in let clash : true ≡ false = sym t ∙ is_a in cc clash)
      (λ e. let t : nat_eq m f.outcome ≡ true = grind (arith, e) in let clash : true ≡ false = sym t ∙ is_b in cc clash)).0 in
      let same : m ≡ f.part n = sym goes ∙ ap f.part back in
      let yes : nat_eq m (f.part n) ≡ true = grind (arith, same) in
      let clash : true ≡ false = sym yes ∙ is_n in absurd (cc clash)

  pub state_put : (n : ℕ) → n ≢ f.wide → (q : State) (s : Tokens) → with_state (f.part n) q (split f u s) ≡ split f u (with_state n q s)
  state_put n own q s =
      λ l. record {
        in_place = (split f u s).in_place;
        state = λ m. stated_so n own q s m (nat_eq m f.argument) (nat_eq m f.outcome) (nat_eq m (f.part n)) (nat_eq (f.part_back m) n) refl refl refl refl l;
      }

  -- the wide Share's own state is not seen, and the two Shares' is as it is
  wide_so : (m : ℕ) (q : State) (s : Tokens) (one other : Bool) → nat_eq m f.argument ≡ one → nat_eq m f.outcome ≡ other
      → (if one then at Rest f.caller else if other then at Rest f.caller else (with_state f.wide q s).state (f.part_back m))
      ≡ (if one then at Rest f.caller else if other then at Rest f.caller else s.state (f.part_back m))
  wide_so m q s true other is_a is_b = refl
  wide_so m q s false true is_a is_b = refl
  wide_so m q s false false is_a is_b =
      let back = (is.others m (λ e. let t : nat_eq m f.argument ≡ true = grind (arith, e) in let clash : true ≡ false = sym t ∙ is_a in cc clash)
      (λ e. let t : nat_eq m f.outcome ≡ true = grind (arith, e) in let clash : true ≡ false = sym t ∙ is_b in cc clash)).1 in
      ap (λ (b : Bool). if b then q else s.state (f.part_back m)) (apart_eq (f.part_back m) f.wide back)

  pub wide_put : (q : State) (s : Tokens) → split f u (with_state f.wide q s) ≡ split f u s
  wide_put q s =
      λ l. record {
        in_place = (split f u s).in_place;
        state = λ m. wide_so m q s (nat_eq m f.argument) (nat_eq m f.outcome) refl refl l;
      }

  pub argument_state : (s : Tokens) → (split f u s).state f.argument ≡ at Rest f.caller
  argument_state s = let test : nat_eq f.argument f.argument ≡ true = grind arith in ap (λ (b : Bool). if b then at Rest f.caller else if nat_eq f.argument f.outcome then at Rest f.caller else s.state (f.part_back f.argument)) test

  outcome_so : (s : Tokens) (one other : Bool) → other ≡ true → (if one then at Rest f.caller else if other then at Rest f.caller else s.state (f.part_back f.outcome)) ≡ at Rest f.caller
  outcome_so s true other h = refl
  outcome_so s false true h = refl
  outcome_so s false false h = absurd (cc h)

  pub outcome_state : (s : Tokens) → (split f u s).state f.outcome ≡ at Rest f.caller
  outcome_state s = outcome_so s (nat_eq f.outcome f.argument) (nat_eq f.outcome f.outcome) (grind arith)

  share_so : (k m : ℕ) (s : Tokens) → (k ≡ f.argument) ⊎ (k ≡ f.outcome) → (b one other : Bool) → nat_eq m k ≡ b → nat_eq m f.argument ≡ one → nat_eq m f.outcome ≡ other
      → (if b then at Rest f.caller else if one then at Rest f.caller else if other then at Rest f.caller else s.state (f.part_back m))
      ≡ (if one then at Rest f.caller else if other then at Rest f.caller else s.state (f.part_back m))
  share_so k m s which false one other is_k is_a is_b = refl
  share_so k m s which true true other is_k is_a is_b = refl
  share_so k m s which true false true is_k is_a is_b = refl
  share_so k m s (inl e) true false false is_k is_a is_b = let same : m ≡ f.argument = grind (arith, is_k, e) in let t : nat_eq m f.argument ≡ true = grind (arith, same) in let clash : true ≡ false = sym t ∙ is_a in absurd (cc clash)
  share_so k m s (inr e) true false false is_k is_a is_b = let same : m ≡ f.outcome = grind (arith, is_k, e) in let t : nat_eq m f.outcome ≡ true = grind (arith, same) in let clash : true ≡ false = sym t ∙ is_b in absurd (cc clash)

  pub share_put : (k : ℕ) → (k ≡ f.argument) ⊎ (k ≡ f.outcome) → (s : Tokens) → with_state k (at Rest f.caller) (split f u s) ≡ split f u s
  share_put k which s =
      λ l. record {
        in_place = (split f u s).in_place;
        state = λ m. share_so k m s which (nat_eq m k) (nat_eq m f.argument) (nat_eq m f.outcome) refl refl refl l;
      }

  -- names, and what is open
  pub names : (e : End) → used e → (handshake_at u (f.end e) ≡ f.end (handshake_at x e)) × used (handshake_at x e)
  names e own = by_place (places_of x e) refl
    where
      by_place : (o : Option End) → places_of x e ≡ o → (handshake_at u (f.end e) ≡ f.end (handshake_at x e)) × used (handshake_at x e)
      by_place (Some a) named =
          let here : handshake_at x e ≡ a = ap (λ (y : Option End). named_by y e) named in
          (ap (λ (y : Option End). named_by y (f.end e)) (place_there e a named) ∙ ap f.end (sym here), subst used (sym here) (asker_used e a named))
      by_place None none =
          let here : handshake_at x e ≡ e = ap (λ (y : Option End). named_by y e) none in
          (ap (λ (y : Option End). named_by y (f.end e)) (no_place e own none) ∙ ap f.end (sym here), subst used (sym here) own)

  abbrev pub Opens : Open → Open → Type 0
  Opens o mine = (e : End) → used e → mine (f.end e) ≡ o e

  opens_with : (o mine : Open) → Opens o mine → (a : End) → used a → (b : Bool) → Opens (with_open a b o) (with_open (f.end a) b mine)
  opens_with o mine opens a here b e also = λ l. if same_moved e a also here l then b else opens e also l

  pub put_opens : (o mine : Open) → Opens o mine → (e : End) → used e → (way : Direction) → Opens (after_put x e way o) (after_put u (f.end e) way mine)
  put_opens o mine opens e here Request =
      let (named, also) = names e here in
      subst (λ (n : End). Opens (with_open (handshake_at x e) true o) (with_open n true mine)) (sym named) (opens_with o mine opens (handshake_at x e) also true)
  put_opens o mine opens e here Answer = opens

  pub taken_opens : (o mine : Open) → Opens o mine → (e : End) → used e → (way : Direction) → Opens (after_taken x e way o) (after_taken u (f.end e) way mine)
  taken_opens o mine opens e here Request = opens
  taken_opens o mine opens e here Answer =
      let (named, also) = names e here in
      subst (λ (n : End). Opens (with_open (handshake_at x e) false o) (with_open n false mine)) (sym named) (opens_with o mine opens (handshake_at x e) also false)

  pub comes_well : (o mine : Open) → Opens o mine → (e : End) → used e → (way : Direction) (s : Tokens) → ComesWell u (f.end e) way mine (split f u s) → ComesWell x e way o s
  comes_well o mine opens e here Request s well = let (named, also) = names e here in sym (opens (handshake_at x e) also) ∙ (ap mine (sym named) ∙ well)
  comes_well o mine opens e here Answer s well =
      let (named, also) = names e here in
      (sym (opens (handshake_at x e) also) ∙ (ap mine (sym named) ∙ well.0), λ w. sym (token_so e here s w) ∙ well.1 w)
