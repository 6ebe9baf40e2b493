-- A region whose result hangs on an end of a part that asks it: where its ends stand in the whole, what lies there, and what it sees.
--
-- Some ends are counted among the region's also where they stand in no joint: its result, which the part then asks in vain, and of the
-- body of a block the ends at which it is served. The region then sees a token that is lost.
use Rattle.std.specs.Prelude.{◌≡◌, ◌⊎◌, ◌<◌, ℕ, true, [], ◌∷◌, Option, Some, None, slice_get}
use Rattle.std.proofs.Common.{arith, refl, sym, ap, subst, inl, inr, ◌∙◌}
use Rattle.std.proofs.lemmas.Option.{slice_get_within}
use Rattle.gos_types.specs.Types.{IsDone}
use Rattle.gos_types.specs.Events.{Direction, Request, Answer}
use Rattle.gos_types.proofs.BoolLemmas.{same_tests}
use Rattle.gos_model.specs.Typing.{Imported}
use Rattle.gos_plan.specs.Kinds as kinds
use Rattle.gos_plan.specs.Kinds.{Contact, asks}
use Rattle.gos_plan.specs.Firing.{State, Slot}
use Rattle.gos_plan.specs.Plans.{End, PartEnd, ImportEnd, ResultEnd, Plan, IsRight, contact_at, contacts_of_import, same_end}
use Rattle.gos_plan.specs.Tokens.{Tokens, Element, Fire, Out, In, places_of, held_at, with_held, token_at, with_token, with_state, Passes, Does, Runs}
use Rattle.gos_plan.specs.Orderly.{named_by, handshake_at}
use Rattle.gos_plan.proofs.JointLemmas.{contained, found, joined, same_is, same_itself, stands_there, asking_stands, serving_stands}
use Rattle.gos_joining.specs.webs.Webs.{joint}
use Rattle.gos_joining.specs.webs.Cutting.{Cut, lies_at, StandsIn, IsCut, cut_tokens}
use Rattle.gos_joining.proofs.webs.CutLemmas.{Owns, one_end, asker_asks, asker_own, place_there, no_place, token_cut, token_put, state_lost, stands_own}
use Rattle.gos_realises.specs.realises.Regular.{count}
use Rattle.gos_realises.proofs.realises.ToldLemmas.{there_is}
use Rattle.gos_realises.proofs.realises.InputLemmas.{result_asks}
use Rattle.gos_nodes.specs.parallel.Parallel.{IsJointOf, IsPartOf}

-- an end of a part that there is, a joined port, or an end that is counted
abbrev pub HeldBy : (End → Type 0) → Plan → End → Type 0
HeldBy Counted p e = Owns p e ⊎ Counted e

-- where the result alone is counted
abbrev pub IsResult : End → Type 0
IsResult e = e ≡ ResultEnd 0

abbrev pub Held : Plan → End → Type 0
Held = HeldBy IsResult

-- Region f of the whole r has the plan p. Its result stands at handshake h of part d, which is none of the region's, and it is counted.
-- No two ends that are held stand at one end, and where one that is counted stands in no joint, neither does the end where it stands. The
-- answer has w bits.
pub record IsHung (Counted : End → Type 0) (d h w : ℕ) (f : Cut) (r p : Plan) : Type 0 where
  pub cut : IsCut f r p
  pub outside : f.number d ≡ None
  pub result : f.outer (ResultEnd 0) ≡ PartEnd d h
  pub counted : Counted (ResultEnd 0)
  pub alone : (e x : End) → HeldBy Counted p e → Counted x → lies_at f e ≡ lies_at f x → e ≡ x
  pub free : (x : End) → Counted x → places_of p x ≡ None → places_of r (lies_at f x) ≡ None
  pub there : contact_at p (ResultEnd 0) ≡ Some (asks 0 w)

-- an element of the whole, and the region's element that it is
pub data Local (f : Cut) (r p : Plan) : Element → Element → Type 0 where
  fires : (i j : ℕ) (k : Slot) → f.number i ≡ Some j → Local f r p (Fire i k) (Fire j k)
  puts_out :
      (i j k v : ℕ) → StandsIn p (ImportEnd i k) → f.outer (ImportEnd i k) ≡ ImportEnd j k → slice_get p.imports i ≡ slice_get r.imports j
      → Local f r p (Out (ImportEnd j k) v) (Out (ImportEnd i k) v)
  takes_in :
      (i j k v : ℕ) → StandsIn p (ImportEnd i k) → f.outer (ImportEnd i k) ≡ ImportEnd j k → slice_get p.imports i ≡ slice_get r.imports j
      → Local f r p (In (ImportEnd j k) v) (In (ImportEnd i k) v)

-- the region sees nothing
abbrev pub Unseen : Cut → Plan → Tokens → Tokens → Type 0
Unseen f p s t = cut_tokens f p t ≡ cut_tokens f p s

-- the region does this
abbrev pub Sees : Cut → Plan → Element → Tokens → Tokens → Type 0
Sees f p y s t = Does p y (cut_tokens f p s) (cut_tokens f p t)

-- the element that is one of a list of one, or of none
pub one_sees : (f : Cut) (p : Plan) (y : Element) (s t : Tokens) → Runs p (y ∷ []) (cut_tokens f p s) (cut_tokens f p t) → Sees f p y s t
one_sees f p y s t (w, does, is) = subst (λ (u : Tokens). Does p y (cut_tokens f p s) u) (sym is) does

-- an import that stands in a joint is there
pub import_real : (o : Plan) → IsRight o → (i k : ℕ) → StandsIn o (ImportEnd i k)
    → (x : Imported) × (slice_get o.imports i ≡ Some x) × (k < count x.ty)
import_real o right i k (j, listing, stands) =
    let place = stands_there o j (ImportEnd i k) right (contained o.joints j listing) stands in
    let one = joined o (ImportEnd i k) j.asking right place in
    let (x, at) = there_is o.imports i k one.here one.is_here in
    (x, at, slice_get_within _ k one.here (sym (ap (λ (n : Option Imported). slice_get (contacts_of_import n) k) at) ∙ one.is_here))

-- a result of one handshake stands at no other
pub result_shake : (o : Plan) → IsRight o → IsDone o.outcome → (k : ℕ) → StandsIn o (ResultEnd k) → k ≡ 0
result_shake o right done k (j, listing, stands) =
    let place = stands_there o j (ResultEnd k) right (contained o.joints j listing) stands in
    let one = joined o (ResultEnd k) j.asking right place in (result_asks o.outcome done k one.here one.is_here).0

module _ {Counted : End → Type 0} {d h w : ℕ} {f : Cut} {r p : Plan} (hung : IsHung Counted d h w f r p) where
  pub result_held : HeldBy Counted p (ResultEnd 0)
  result_held = inr hung.counted

  -- an end has places in the region and in the whole, or it has none
  data Placed (e : End) : Type 0 where
    owned : Owns p e → Placed e
    lost : places_of p e ≡ None → places_of r (lies_at f e) ≡ None → Placed e

  placed : (e : End) → HeldBy Counted p e → Placed e
  placed e (inl own) = owned own
  placed e (inr counted) = by_place (places_of p e) refl
    where
      by_place : (o : Option End) → places_of p e ≡ o → Placed e
      by_place None none = lost none (hung.free e counted none)
      by_place (Some a) named =
          let at = found p.joints e a named in owned (stands_own p at.joint e hung.cut.right at.is_in at.stands)

  pub one_held : (a b : End) → HeldBy Counted p a → HeldBy Counted p b → lies_at f a ≡ lies_at f b → a ≡ b
  one_held a b (inl own) (inl also) same = one_end f r p hung.cut a b own also same
  one_held a b (inl own) (inr counted) same = hung.alone a b (inl own) counted same
  one_held a b (inr counted) (inl also) same = sym (hung.alone b a (inl also) counted (sym same))
  one_held a b (inr counted) (inr also) same = hung.alone a b (inr counted) also same

  pub same_held : (a b : End) → HeldBy Counted p a → HeldBy Counted p b → same_end (lies_at f a) (lies_at f b) ≡ same_end a b
  same_held a b held also = same_tests (same_end (lies_at f a) (lies_at f b)) (same_end a b) to from
    where
      to : same_end (lies_at f a) (lies_at f b) ≡ true → same_end a b ≡ true
      to t = subst (λ (x : End). same_end a x ≡ true) (one_held a b held also (same_is (lies_at f a) (lies_at f b) t)) (same_itself a)

      from : same_end a b ≡ true → same_end (lies_at f a) (lies_at f b) ≡ true
      from t = subst (λ (x : End). same_end (lies_at f a) (lies_at f x) ≡ true) (same_is a b t) (same_itself (lies_at f a))

  -- the name of a handshake
  pub name_lies : (e : End) → HeldBy Counted p e → handshake_at r (lies_at f e) ≡ lies_at f (handshake_at p e)
  name_lies e held = by_placed (placed e held)
    where
      by_name : (o : Option End) → places_of p e ≡ o → Owns p e → handshake_at r (lies_at f e) ≡ lies_at f (handshake_at p e)
      by_name None none own =
          ap (λ o. named_by o (lies_at f e)) (no_place f r p hung.cut e own none) ∙ sym (ap (λ o. lies_at f (named_by o e)) none)
      by_name (Some a) named own =
          ap (λ o. named_by o (lies_at f e)) (place_there f r p hung.cut e a named) ∙ sym (ap (λ o. lies_at f (named_by o e)) named)

      by_placed : Placed e → handshake_at r (lies_at f e) ≡ lies_at f (handshake_at p e)
      by_placed (owned own) = by_name (places_of p e) refl own
      by_placed (lost none nowhere) = ap (λ o. named_by o (lies_at f e)) nowhere ∙ sym (ap (λ o. lies_at f (named_by o e)) none)

  pub name_held : (e : End) → HeldBy Counted p e → HeldBy Counted p (handshake_at p e)
  name_held e held = by_place (places_of p e) refl
    where
      by_place : (o : Option End) → places_of p e ≡ o → HeldBy Counted p (handshake_at p e)
      by_place None none = subst (λ o. HeldBy Counted p (named_by o e)) (sym none) held
      by_place (Some a) named = subst (λ o. HeldBy Counted p (named_by o e)) (sym named) (inl (asker_own p hung.cut.right a (asker_asks p e a named)))

  -- what lies at an end, and what is put or taken there
  pub held_token : (e : End) → HeldBy Counted p e → (s : Tokens) (way : Direction) → token_at p (cut_tokens f p s) e way ≡ token_at r s (lies_at f e) way
  held_token e held s way = by_placed (placed e held)
    where
      by_placed : Placed e → token_at p (cut_tokens f p s) e way ≡ token_at r s (lies_at f e) way
      by_placed (owned own) = token_cut f r p hung.cut e own s way
      by_placed (lost none nowhere) = ap (held_at (cut_tokens f p s) way) none ∙ sym (ap (held_at s way) nowhere)

  pub held_put : (e : End) → HeldBy Counted p e → (way : Direction) (held : Option ℕ) (s : Tokens)
      → with_token p e way held (cut_tokens f p s) ≡ cut_tokens f p (with_token r (lies_at f e) way held s)
  held_put e is way held s = by_placed (placed e is)
    where
      by_placed : Placed e → with_token p e way held (cut_tokens f p s) ≡ cut_tokens f p (with_token r (lies_at f e) way held s)
      by_placed (owned own) = token_put f r p hung.cut e own way held s
      by_placed (lost none nowhere) =
          ap (λ o. with_held way o held (cut_tokens f p s)) none ∙ sym (ap (λ o. cut_tokens f p (with_held way o held s)) nowhere)

  pub result_put : (way : Direction) (held : Option ℕ) (s : Tokens)
      → cut_tokens f p (with_token r (PartEnd d h) way held s) ≡ with_token p (ResultEnd 0) way held (cut_tokens f p s)
  result_put way held s =
      ap (λ (e : End). cut_tokens f p (with_token r e way held s)) (sym hung.result) ∙ sym (held_put (ResultEnd 0) result_held way held s)

  -- the result is asked, and answers
  pub is_asked : (s t : Tokens) → cut_tokens f p t ≡ with_token p (ResultEnd 0) Request (Some 0) (cut_tokens f p s)
      → Does p (In (ResultEnd 0) 0) (cut_tokens f p s) (cut_tokens f p t)
  is_asked s t is =
      (tt, subst (λ (o : Option Contact). Passes p (In (ResultEnd 0) 0) o (cut_tokens f p s) (cut_tokens f p t)) (sym hung.there) (omega arith, is))

  pub is_answered : (v : ℕ) (s t : Tokens) → token_at r s (PartEnd d h) Answer ≡ Some v
      → cut_tokens f p t ≡ with_token p (ResultEnd 0) Answer None (cut_tokens f p s)
      → Does p (Out (ResultEnd 0) v) (cut_tokens f p s) (cut_tokens f p t)
  is_answered v s t lies is =
      let here : token_at p (cut_tokens f p s) (ResultEnd 0) Answer ≡ Some v =
      held_token (ResultEnd 0) result_held s Answer ∙ (ap (λ (e : End). token_at r s e Answer) hung.result ∙ lies) in
      (tt, subst (λ (o : Option Contact). Passes p (Out (ResultEnd 0) v) o (cut_tokens f p s) (cut_tokens f p t)) (sym hung.there) (here, is))

  -- what changes of a part that is none of its own it doesn't see
  pub state_unseen : (i : ℕ) → f.number i ≡ None → (q : State) (s : Tokens) → cut_tokens f p (with_state i q s) ≡ cut_tokens f p s
  state_unseen i out q s = state_lost f r p hung.cut i kinds.Par out q s

  -- the part that asks it is none of its own
  pub not_driver : (i : ℕ) → IsPartOf f i → i ≡ d → ⊥
  not_driver i (j, number) same = let clash : None ≡ Some j = sym hung.outside ∙ (ap f.number (sym same) ∙ number) in cc clash

  -- the handshake of an import is that of the import of the whole at which it stands
  pub import_contact : (i j k : ℕ) → StandsIn p (ImportEnd i k) → f.outer (ImportEnd i k) ≡ ImportEnd j k
      → contact_at r (ImportEnd j k) ≡ contact_at p (ImportEnd i k)
  import_contact i j k stands leads = ap (contact_at r) (sym leads) ∙ hung.cut.contacts (ImportEnd i k) tt stands

  -- at an import that is none of its own the region has no joint
  pub not_its_import : (j k : ℕ) → f.inner (ImportEnd j k) ≡ None → (a b : End) → IsJointOf f p a b → (ImportEnd j k ≡ a) ⊎ (ImportEnd j k ≡ b) → ⊥
  not_its_import j k out a b (x, y, has, at, beyond) which =
      elim which [
        | inl one ↦ apart x (stands_own p (joint x y) x hung.cut.right (contained p.joints (joint x y) has) (asking_stands (joint x y))) (at ∙ sym one)
        | inr one ↦ apart y (stands_own p (joint x y) y hung.cut.right (contained p.joints (joint x y) has) (serving_stands (joint x y))) (beyond ∙ sym one)
      ]
    where
      apart : (x : End) → Owns p x → lies_at f x ≡ ImportEnd j k → ⊥
      apart (PartEnd i n) own at = cc at
      apart (ImportEnd i n) own at =
          let clash : None ≡ Some (ImportEnd i n) = sym out ∙ (ap f.inner (sym at) ∙ (hung.cut.ports (ImportEnd i n) tt own).1) in cc clash
      apart (ResultEnd n) own at =
          let clash : None ≡ Some (ResultEnd n) = sym out ∙ (ap f.inner (sym at) ∙ (hung.cut.ports (ResultEnd n) tt own).1) in cc clash
