-- Ports: the handshakes of a result that is a command or an expression, and of imports; what passes there.
use Rattle.std.specs.Prelude.{◌≡◌, ℕ, suc, ◌^◌, ◌<◌, [], ◌∷◌, Option, Some, None, slice_get, Contains}
use Rattle.std.proofs.Common.{refl, sym, ap, subst, inl, inr, ◌∙◌}
use Rattle.gos_types.specs.Types.{Type', Com, Exp, Var, Pair, Fun, IsDone}
use Rattle.gos_types.specs.Events.{Direction, Answer}
use Rattle.gos_model.specs.Terms.{Name}
use Rattle.gos_model.specs.Typing.{Imported, Imports}
use Rattle.gos_model.specs.Labels.{Given, Taken, given}
use Rattle.gos_model.specs.Moves.{Answers}
use Rattle.gos_plan.specs.Kinds.{Contact, contacts_of}
use Rattle.gos_plan.specs.Plans.{End, ImportEnd, ResultEnd, Plan, turned_if, contact_at}
use Rattle.gos_plan.specs.Tokens.{Tokens, Out, In, way_taken, bits_of, token_at, Passes, Does}
use Rattle.gos_plan.specs.TokenBits.{TokensFit}
use Rattle.gos_realises.specs.realises.Matched.{port_if, label_at, shows}
use Rattle.gos_realises.specs.realises.Realises.{NamesDiffer}
use Rattle.gos_realises.proofs.realises.ToldLemmas.{there_is}
use Rattle.gos_joining.proofs.renumbered.ImportLemmas.{has_type, type_has}
use Rattle.gos_programs.specs.contexts.Widening.{AreAmong}
use Rattle.gos_nodes.specs.sessions.Sessions.{value_of}
use Rattle.gos_nodes.proofs.windows.WholeLemmas.{zero_only}

-- the result of a command or an expression has one handshake, at which the outside asks
no_more : (t : Type') (h : ℕ) → IsDone t → turned_if (slice_get (contacts_of t) (suc h)) ≡ None
no_more Com h d = refl
no_more (Exp w) h d = refl
no_more (Var w) h d = absurd d
no_more (Pair a b) h d = absurd d
no_more (Fun a b) h d = absurd d

pub request_shown : (p : Plan) (v : ℕ) → IsDone p.outcome → shows p (In (ResultEnd 0) v) ≡ given 0 v ∷ []
request_shown p v d = refl

pub answer_shown : (p : Plan) (v : ℕ) → IsDone p.outcome → shows p (Out (ResultEnd 0) v) ≡ given 1 v ∷ []
answer_shown p v d = refl

passes_nothing : (p : Plan) (e : End) (v : ℕ) (o : Option Contact) (s t : Tokens) → o ≡ None → Passes p (Out e v) o s t → ⊥
passes_nothing p e v o s t none h = subst (λ (x : Option Contact). Passes p (Out e v) x s t) none h

pub no_other_out : (p : Plan) (h v : ℕ) (s t : Tokens) → IsDone p.outcome → Does p (Out (ResultEnd (suc h)) v) s t → ⊥
no_other_out p h v s t d (port, passes) = passes_nothing p (ResultEnd (suc h)) v (contact_at p (ResultEnd (suc h))) s t (no_more p.outcome h d) passes

-- what passes is a handshake
pub out_held : (p : Plan) (e : End) (v : ℕ) (s t : Tokens) → Does p (Out e v) s t
    → (c : Contact) × (contact_at p e ≡ Some c) × (token_at p s e (way_taken c.role) ≡ Some v)
out_held p e v s t (port, passes) = by_contact (contact_at p e) refl passes
  where
    by_contact : (o : Option Contact) → contact_at p e ≡ o → Passes p (Out e v) o s t
        → (c : Contact) × (contact_at p e ≡ Some c) × (token_at p s e (way_taken c.role) ≡ Some v)
    by_contact None is h = absurd h
    by_contact (Some c) is h = (c, is, h.0)

-- imports that are all among others of different names have their types there
pub among : (is js : Imports) → NamesDiffer js → ((i : Imported) → Contains is i → Contains js i) → AreAmong is js
among is js differ f x t h =
    let (i, there, named, typed) = has_type is x t h in type_has js differ x i (f i there) named ∙ ap Some typed

-- the port of an import that is there
pub import_port : (p : Plan) (i h v : ℕ) (way : Direction) (c : Contact) → contact_at p (ImportEnd i h) ≡ Some c → (label_at p (ImportEnd i h) way v).port ≡ Given → ⊥
import_port p i h v way c at given =
    let (x, is) = there_is p.imports i h c at in
    taken_given x.name (sym (ap port_if is) ∙ given)
  where
    taken_given : (x : Name) → Taken x ≡ Given → ⊥
    taken_given x e = cc e

-- what is known of a handshake that there is
abbrev bits_if : Option Contact → ℕ
bits_if None = 0
bits_if (Some c) = bits_of c Answer

-- the value of an answer answers with it
answers_by : (t : Type') (v : ℕ) (c : Contact) → IsDone t → turned_if (slice_get (contacts_of t) 0) ≡ Some c → v < 2 ^ bits_of c Answer
    → Answers (given 1 v) (value_of t v)
answers_by Com v c d at fits =
    let bits : bits_of c Answer ≡ 0 = ap (λ o. bits_if o) (sym at) in
    let small : v < 2 ^ 0 = subst (λ (b : ℕ). v < 2 ^ b) bits fits in inl (refl, ap (λ k. given 1 k) (zero_only v small))
answers_by (Exp w) v c d at fits = inr (v, w, refl, refl)
answers_by (Var w) v c d at fits = absurd d
answers_by (Pair a b) v c d at fits = absurd d
answers_by (Fun a b) v c d at fits = absurd d

pub answers_value : (p : Plan) (t : Type') (s : Tokens) (v : ℕ) → p.outcome ≡ t → IsDone t → TokensFit p s
    → token_at p s (ResultEnd 0) Answer ≡ Some v → Answers (given 1 v) (value_of t v)
answers_value p t s v is d fits held = by_contact (contact_at p (ResultEnd 0)) refl
  where
    no_contact : (u : Type') → IsDone u → turned_if (slice_get (contacts_of u) 0) ≡ None → ⊥
    no_contact Com d e = cc e
    no_contact (Exp w) d e = cc e
    no_contact (Var w) d e = d
    no_contact (Pair a b) d e = d
    no_contact (Fun a b) d e = d

    by_contact : (o : Option Contact) → contact_at p (ResultEnd 0) ≡ o → Answers (given 1 v) (value_of t v)
    by_contact None e = absurd (no_contact t d (ap (λ (u : Type'). turned_if (slice_get (contacts_of u) 0)) (sym is) ∙ e))
    by_contact (Some c) e =
        answers_by t v c d (ap (λ (u : Type'). turned_if (slice_get (contacts_of u) 0)) (sym is) ∙ e)
        (fits (ResultEnd 0) c Answer v e held)
