-- A plan of a variable that a few parts drive: a buffer before it is a buffer of the whole, and a loose part in it is loose in
-- the whole.
--
-- The driving parts stand behind the plan's own. One handshake of its result is joined to the first of them, and the others
-- are joined to nothing.
use Rattle.std.specs.Prelude.{◌↔◌, ◌⊎◌, ◌+◌, ◌-◌, ◌*◌, ◌<◌, ◌≤◌, slice_get, length}
use Rattle.std.proofs.Common.{◌≡◌, ℕ, zero, suc, List, [], ◌∷◌, ◌++◌, Some, Contains, inl, inr, refl, sym, ◌∙◌, ap, subst, arith}
use Rattle.std.proofs.lemmas.Option.{slice_get_within}
use Rattle.std.proofs.lemmas.List.{length-append}
use Rattle.gos_types.specs.Types.{IsGround}
use Rattle.gos_types.specs.declared.shakes.Role.{Role}
use Rattle.gos_types.specs.declared.shakes.Role.TheVariants.{Serve}
use Rattle.gos_plan.specs.Kinds.{Contact, asks, serves, Part, Share, contacts_of}
use Rattle.gos_plan.specs.Plans.{End, PartEnd, ImportEnd, ResultEnd, Plan, contact_at, IsRight}
use Rattle.gos_plan.proofs.JointLemmas.{IsIn, fits, contained, same_part, same_shake}
use Rattle.gos_realises.specs.realises.Regular.{count}
use Rattle.gos_joining.specs.webs.Webs.{joint}
use Rattle.gos_joining.specs.webs.Cutting.{StandsIn}
use Rattle.gos_joining.proofs.webs.MovedLemmas.{listed}
use Rattle.gos_sharing.specs.sharing.Sharing.{source_end, caller_end, way_into, way_out_of, IsOfPart, LeadsThrough, IsSeenThrough}
use Rattle.gos_sharing.proofs.sharing.SeenTokenLemmas.{either_end}
use Rattle.gos_sharing.specs.buffers.Buffers.{IsBuffer}
use Rattle.gos_sharing.specs.buffers.Buffering.{with_part, end_behind, buffered, ResultIsJoined}
use Rattle.gos_sharing.proofs.buffers.GroundLemmas.{ground_serves}
use Rattle.gos_sharing.proofs.buffers.BufferedLemmas.{apart_callers, known_part, result_asks, result_within, server_outside, caller_not, Behind, OfCallers, of_whole, behind_in, caller_in, outside_behind, source_behind, stands_asking}

-- an end that isn't the result's
abbrev pub IsPlain : End → Type 0
IsPlain (PartEnd i h) = Unit {0}
IsPlain (ImportEnd i h) = Unit {0}
IsPlain (ResultEnd h) = ⊥

-- The joints of the whole, where the driving parts begin with number n: those of the plan, the one of its result that is
-- driven, at the first part's handshake f, and those of the driving parts.
abbrev pub DrivenJoint : ℕ → ℕ → (ℕ → End → End → Type 0) → ℕ → Plan → End → End → Type 0
DrivenJoint v f Own n p a b =
    (IsIn (joint a b) p.joints × IsPlain a) ⊎ ((a ≡ PartEnd n f) × IsIn (joint (ResultEnd v) b) p.joints) ⊎ Own n a b

pub record IsDriven (v f : ℕ) (ds : List Part) (Own : ℕ → End → End → Type 0) (p r : Plan) : Type 0 where
  pub right : IsRight r
  pub parts : r.parts ≡ p.parts ++ ds
  pub imports : r.imports ≡ p.imports
  pub joints : (a b : End) → Contains r.joints (joint a b) ↔ DrivenJoint v f Own (length p.parts) p a b

-- the driving parts' joints have ends of their own, and of no part before
pub record IsOwn (Own : ℕ → End → End → Type 0) : Type 0 where
  pub asking : (n i : ℕ) (a b : End) → i < n → Own n a b → IsOfPart i a → ⊥
  pub serving : (n i : ℕ) (a b : End) → i < n → Own n a b → IsOfPart i b → ⊥

-- lists of parts
pub before_end : (xs ys : List Part) (i : ℕ) → i < length xs → slice_get (xs ++ ys) i ≡ slice_get xs i
before_end [] ys i lt = absurd (omega (arith, lt))
before_end (x ∷ xs) ys zero lt = refl
before_end (x ∷ xs) ys (suc i) lt = before_end xs ys i (omega (arith, lt))

pub past_end : (xs ys : List Part) (i j : ℕ) → i ≡ length xs + j → slice_get (xs ++ ys) i ≡ slice_get ys j
past_end [] ys i j e = let same : i ≡ j = omega (arith, e) in ap (slice_get ys) same
past_end (x ∷ xs) ys zero j e = absurd (omega (arith, e))
past_end (x ∷ xs) ys (suc i) j e = past_end xs ys i j (omega (arith, e))

pub one_longer : (xs : List Part) (y : Part) → length (xs ++ (y ∷ [])) ≡ suc (length xs)
one_longer xs y = let e = length-append xs (y ∷ []) in omega (arith, e)

-- A plan behind a Share, driven, is a buffer before the plan with a loose part, driven.
module _
    (v f : ℕ) (ds : List Part) (Own : ℕ → End → End → Type 0) (own : IsOwn Own) (c : ℕ) (p : Plan) (two : c < 2) (right : IsRight p)
    (ground : IsGround p.outcome) (result : ResultIsJoined p) (r q : Plan)
    (driven : IsDriven v f ds Own (buffered p.outcome c p) r) (bare : IsDriven v f ds Own (with_part (Share p.outcome) p) q) (one_outcome : q.outcome ≡ r.outcome) where
  abbrev number : ℕ
  number = length p.parts

  abbrev whole : Plan
  whole = buffered p.outcome c p

  -- the number of the first driving part
  abbrev first : ℕ
  first = length (p.parts ++ (Share p.outcome ∷ []))

  before_first : number < first
  before_first = let e = one_longer p.parts (Share p.outcome) in omega (arith, e)

  -- the joints of the whole, by those of the plan
  abbrev InPlan : End → End → Type 0
  InPlan a b = (d : End) × (e : End) × IsIn (joint d e) p.joints × (a ≡ end_behind number d) × (b ≡ e)

  abbrev Driving : End → End → Type 0
  Driving a b = (a ≡ PartEnd first f) × (b ≡ caller_end number p.outcome c v)

  of_r : (a b : End) → Contains r.joints (joint a b) → InPlan a b ⊎ Driving a b ⊎ Own first a b
  of_r a b has = by_kind ((driven.joints a b).0 has)
    where
      behind : Behind c p two right ground a b → InPlan a b
      behind (d, e, here, at_a, at_b) = (d, e, here, at_a, at_b ∙ (server_outside c p two right ground d e here).0)

      plain : IsPlain a → Behind c p two right ground a b ⊎ OfCallers c p two right ground a b → InPlan a b
      plain outside (inl here) = behind here
      plain outside (inr (h, lt, at_a, at_b)) = absurd (subst IsPlain at_a outside)

      drives : (x : End) → x ≡ ResultEnd v → Behind c p two right ground x b ⊎ OfCallers c p two right ground x b → b ≡ caller_end number p.outcome c v
      drives x e (inl (d, y, here, at_d, at_y)) = absurd (not_result d (sym e ∙ at_d))
        where
          not_result : (d : End) → ResultEnd v ≡ end_behind number d → ⊥
          not_result (PartEnd i h) k = cc k
          not_result (ImportEnd i h) k = cc k
          not_result (ResultEnd h) k = cc k
      drives x e (inr (h, lt, at_x, at_b)) =
          let both : ResultEnd h ≡ ResultEnd v = sym at_x ∙ e in
          let same : h ≡ v = cc both in at_b ∙ ap (λ n. caller_end number p.outcome c n) same

      by_kind : DrivenJoint v f Own first whole a b → InPlan a b ⊎ Driving a b ⊎ Own first a b
      by_kind (inl (here, outside)) = inl (plain outside (of_whole c p two right ground a b (listed whole.joints (joint a b) here)))
      by_kind (inr (inl (at_a, here))) = inr (inl (at_a, drives (ResultEnd v) refl (of_whole c p two right ground (ResultEnd v) b (listed whole.joints (joint (ResultEnd v) b) here))))
      by_kind (inr (inr here)) = inr (inr here)

  plain_behind : (d : End) → IsPlain (end_behind number d)
  plain_behind (PartEnd i h) = tt
  plain_behind (ImportEnd i h) = tt
  plain_behind (ResultEnd h) = tt

  in_r : (d e : End) → IsIn (joint d e) p.joints → Contains r.joints (joint (end_behind number d) e)
  in_r d e here =
      let out = (server_outside c p two right ground d e here).0 in
      (driven.joints (end_behind number d) e).1
      (inl (contained whole.joints (joint (end_behind number d) e) (subst (λ (x : End). Contains whole.joints (joint (end_behind number d) x)) out (behind_in c p two right ground d e here)), plain_behind d))

  driving_in : v < count p.outcome → Contains r.joints (joint (PartEnd first f) (caller_end number p.outcome c v))
  driving_in lt =
      (driven.joints (PartEnd first f) (caller_end number p.outcome c v)).1
      (inr (inl (refl, contained whole.joints (joint (ResultEnd v) (caller_end number p.outcome c v)) (caller_in c p two right ground v lt))))

  own_in : (a b : End) → Own first a b → Contains r.joints (joint a b)
  own_in a b here = (driven.joints a b).1 (inr (inr here))

  -- ends of the plan
  server_apart : (d e : End) → IsIn (joint d e) p.joints → IsOfPart number e → ⊥
  server_apart d e here = (server_outside c p two right ground d e here).1

  asker_apart : (d e : End) → IsIn (joint d e) p.joints → IsPlain d → IsOfPart number d → ⊥
  asker_apart (PartEnd i h) e here plain of =
      let fit = fits p [] p.joints (joint (PartEnd i h) e) right here in known_part c p two right ground i h (asks fit.0 fit.1) fit.2 of
  asker_apart (ImportEnd i h) e here plain of = of
  asker_apart (ResultEnd h) e here plain of = plain

  plain_same : (d : End) → IsPlain d → end_behind number d ≡ d
  plain_same (PartEnd i h) plain = refl
  plain_same (ImportEnd i h) plain = refl
  plain_same (ResultEnd h) plain = absurd plain

  first_apart : (h : ℕ) → IsOfPart number (PartEnd first h) → ⊥
  first_apart h e = omega (arith, e, before_first)

  apart_ends : (a b : End) → Contains r.joints (joint a b) → IsOfPart number a → IsOfPart number b → ⊥
  apart_ends a b has one other = by_kind (of_r a b has)
    where
      by_kind : InPlan a b ⊎ Driving a b ⊎ Own first a b → ⊥
      by_kind (inl (d, e, here, at_a, at_b)) = server_apart d e here (subst (λ (x : End). IsOfPart number x) at_b other)
      by_kind (inr (inl (at_a, at_b))) = first_apart f (subst (λ (x : End). IsOfPart number x) at_a one)
      by_kind (inr (inr here)) = own.asking first number a b before_first here one

  abbrev SeenSo : End → End → Type 0
  SeenSo a b = (Contains r.joints (joint a b) × (IsOfPart number a → ⊥) × (IsOfPart number b → ⊥)) ⊎ LeadsThrough number p.outcome c r a b

  to_seen : (a b : End) → Contains q.joints (joint a b) → SeenSo a b
  to_seen a b has = by_kind ((bare.joints a b).0 has)
    where
      by_kind : DrivenJoint v f Own first (with_part (Share p.outcome) p) a b → SeenSo a b
      by_kind (inl (here, plain)) =
          inl (subst (λ (x : End). Contains r.joints (joint x b)) (plain_same a plain) (in_r a b here), asker_apart a b here plain, server_apart a b here)
      by_kind (inr (inl (at_a, here))) =
          let fit = fits p [] p.joints (joint (ResultEnd v) b) right here in
          let lt = result_within c p two right ground v (asks fit.0 fit.1) fit.2 in
          let (k, there, role) = ground_serves p.outcome v ground lt in
          inr (
            v,
            k,
            there,
            subst (λ (x : Role). Contains r.joints (joint a (way_into number p.outcome c v x))) (sym role)
                (subst (λ (x : End). Contains r.joints (joint x (caller_end number p.outcome c v))) (sym at_a) (driving_in lt)),
            subst (λ (x : Role). Contains r.joints (joint (way_out_of number p.outcome c v x) b)) (sym role) (in_r (ResultEnd v) b here),
          )
      by_kind (inr (inr here)) = inl (own_in a b here, own.asking first number a b before_first here, own.serving first number a b before_first here)

  from_through : (j : ℕ) (a b : End) → j < count p.outcome → Contains r.joints (joint a (caller_end number p.outcome c j)) → Contains r.joints (joint (source_end number j) b)
      → (a ≡ PartEnd first f) × IsIn (joint (ResultEnd v) b) p.joints
  from_through j a b lt into out = by_kinds (of_r a (caller_end number p.outcome c j) into) (of_r (source_end number j) b out)
    where
      in_plan : InPlan a (caller_end number p.outcome c j) → ⊥
      in_plan (d, e, here, at_a, at_b) =
          let fit = fits p [] p.joints (joint d e) right here in
          caller_not c p two right ground j e (serves fit.0 fit.1) fit.3 (at_b ∙ sym (server_outside c p two right ground d e here).0)

      source_plan : j ≡ v → InPlan (source_end number j) b → IsIn (joint (ResultEnd v) b) p.joints
      source_plan same (d, e, here, at_d, at_b) =
          let fit = fits p [] p.joints (joint d e) right here in
          let is_result = source_behind c p two right ground j d (asks fit.0 fit.1) fit.2 at_d in
          subst (λ (x : End). IsIn (joint x b) p.joints) (is_result ∙ ap ResultEnd same) (subst (λ (x : End). IsIn (joint d x) p.joints) (sym at_b) here)

      by_kinds : InPlan a (caller_end number p.outcome c j) ⊎ Driving a (caller_end number p.outcome c j) ⊎ Own first a (caller_end number p.outcome c j)
          → InPlan (source_end number j) b ⊎ Driving (source_end number j) b ⊎ Own first (source_end number j) b → (a ≡ PartEnd first f) × IsIn (joint (ResultEnd v) b) p.joints
      by_kinds (inl here) other = absurd (in_plan here)
      by_kinds (inr (inr here)) other = absurd (own.serving first number a (caller_end number p.outcome c j) before_first here refl)
      by_kinds (inr (inl (at_a, at_b))) (inl here) =
          let same = same_shake number (count p.outcome + c * count p.outcome + j) number (count p.outcome + c * count p.outcome + v) at_b in
          (at_a, source_plan (omega (arith, same)) here)
      by_kinds (inr (inl one)) (inr (inl (at_a, at_b))) = absurd (first_apart f (subst (λ (x : End). IsOfPart number x) at_a refl))
      by_kinds (inr (inl one)) (inr (inr here)) = absurd (own.asking first number (source_end number j) b before_first here refl)

  from_seen : (a b : End) → SeenSo a b → Contains q.joints (joint a b)
  from_seen a b (inl (has, one, other)) = (bare.joints a b).1 (by_kind (of_r a b has))
    where
      by_kind : InPlan a b ⊎ Driving a b ⊎ Own first a b → DrivenJoint v f Own first (with_part (Share p.outcome) p) a b
      by_kind (inl (d, e, here, at_a, at_b)) =
          let same = outside_behind c p two right ground a d at_a one in
          inl (
            subst (λ (x : End). IsIn (joint x b) p.joints) (sym same) (subst (λ (x : End). IsIn (joint d x) p.joints) (sym at_b) here),
            subst IsPlain (sym at_a) (plain_behind d),
          )
      by_kind (inr (inl (at_a, at_b))) = absurd (other (subst (λ (x : End). IsOfPart number x) (sym at_b) refl))
      by_kind (inr (inr here)) = inr (inr here)
  from_seen a b (inr (j, k, there, into, out)) =
      let lt = slice_get_within (contacts_of p.outcome) j k there in
      let own = ground_serves p.outcome j ground lt in
      let both : Some own.0 ≡ Some k = sym own.1 ∙ there in
      let same : own.0 ≡ k = cc both in
      let role : k.role ≡ Serve = ap (λ (x : Contact). x.role) (sym same) ∙ own.2 in
      (bare.joints a b).1
      (inr (inl (from_through j a b lt (subst (λ (x : Role). Contains r.joints (joint a (way_into number p.outcome c j x))) role into)
      (subst (λ (x : Role). Contains r.joints (joint (way_out_of number p.outcome c j x) b)) role out))))

  share_at : slice_get r.parts number ≡ Some (Share p.outcome)
  share_at =
      ap (λ xs. slice_get xs number) driven.parts
      ∙ (before_end (p.parts ++ (Share p.outcome ∷ [])) ds number before_first ∙ past_end p.parts (Share p.outcome ∷ []) number 0 (omega arith))

  seen_through : IsSeenThrough number p.outcome c r q
  seen_through =
      record {
        share = share_at;
        caller = two;
        right = driven.right;
        also_right = bare.right;
        parts = bare.parts ∙ sym driven.parts;
        imports = bare.imports ∙ sym driven.imports;
        outcome = one_outcome;
        apart = apart_ends;
        joints = λ a b. (to_seen a b, from_seen a b);
      }

  -- no joint has the other caller's end, and of the caller's own only the driven one's
  stand_where : (h : ℕ) → count p.outcome ≤ h → StandsIn r (PartEnd number h) → h ≡ count p.outcome + c * count p.outcome + v
  stand_where h low (k, has, at_end) = by_kind (of_r k.asking k.serving has)
    where
      either : (PartEnd number h ≡ k.asking) ⊎ (PartEnd number h ≡ k.serving)
      either = either_end (PartEnd number h) k.asking k.serving at_end

      by_asker : (d e : End) → IsIn (joint d e) p.joints → PartEnd number h ≡ end_behind number d → ⊥
      by_asker (PartEnd i g) e here at =
          let fit = fits p [] p.joints (joint (PartEnd i g) e) right here in known_part c p two right ground i g (asks fit.0 fit.1) fit.2 (sym (same_part number h i g at))
      by_asker (ImportEnd i g) e here at = cc at
      by_asker (ResultEnd g) e here at =
          let fit = fits p [] p.joints (joint (ResultEnd g) e) right here in
          let lt = result_within c p two right ground g (asks fit.0 fit.1) fit.2 in
          let same = same_shake number h number g at in
          omega (arith, same, lt, low)

      by_kind : InPlan k.asking k.serving ⊎ Driving k.asking k.serving ⊎ Own first k.asking k.serving → h ≡ count p.outcome + c * count p.outcome + v
      by_kind (inl (d, e, here, at_a, at_b)) =
          elim either [
            | inl one ↦ absurd (by_asker d e here (one ∙ at_a))
            | inr one ↦ absurd (server_apart d e here (subst (λ (x : End). IsOfPart number x) (one ∙ at_b) refl))
          ]
      by_kind (inr (inl (at_a, at_b))) =
          elim either [
            | inl one ↦ absurd (first_apart f (subst (λ (x : End). IsOfPart number x) (one ∙ at_a) refl))
            | inr one ↦ same_shake number h number (count p.outcome + c * count p.outcome + v) (one ∙ at_b)
          ]
      by_kind (inr (inr here)) =
          elim either [
            | inl one ↦ absurd (own.asking first number k.asking k.serving before_first here (subst (λ (x : End). IsOfPart number x) one refl))
            | inr one ↦ absurd (own.serving first number k.asking k.serving before_first here (subst (λ (x : End). IsOfPart number x) one refl))
          ]

  source_joined : (j : ℕ) → j < count p.outcome → StandsIn r (source_end number j)
  source_joined j lt = of_joint (result j lt)
    where
      of_joint : StandsIn p (ResultEnd j) → StandsIn r (source_end number j)
      of_joint (k, has, at_end) = by_end (either_end (ResultEnd j) k.asking k.serving at_end)
        where
          in_p : IsIn (joint k.asking k.serving) p.joints
          in_p = contained p.joints k has

          by_end : (ResultEnd j ≡ k.asking) ⊎ (ResultEnd j ≡ k.serving) → StandsIn r (source_end number j)
          by_end (inl e) = (
            joint (source_end number j) k.serving,
            in_r (ResultEnd j) k.serving (subst (λ (x : End). IsIn (joint x k.serving) p.joints) (sym e) in_p),
            stands_asking (source_end number j) (source_end number j) k.serving refl,
          )
          by_end (inr e) =
              let fit = fits p [] p.joints k right in_p in absurd (result_asks c p two right ground j fit.0 fit.1 (ap (contact_at p) e ∙ fit.3))

  pub driven_buffer : v < count p.outcome → IsBuffer number p.outcome c r q
  driven_buffer known =
      record {
        seen = seen_through;
        ground = ground;
        alone = λ j lt stands. apart_callers (count p.outcome) c j v two lt known (stand_where (count p.outcome + (1 - c) * count p.outcome + j) (omega arith) stands);
        goes_on = λ j lt stands. source_joined j lt;
      }
