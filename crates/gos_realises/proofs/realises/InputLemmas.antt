-- Lists whose inputs keep turns, element by element; and at ground ports which way a token passes, and what it leaves open.
use Rattle.std.specs.Prelude.{◌≡◌, ℕ, zero, suc, List, [], ◌∷◌, ◌++◌, Option, Some, None, slice_get, if◌then◌else◌}
use Rattle.std.proofs.Common.{refl, sym, ◌∙◌, ap, subst}
use Rattle.std.proofs.lemmas.Option.{none-some, same_Some}
use Rattle.gos_types.specs.declared.shakes.Role.TheVariants.{Serve, Ask}
use Rattle.gos_types.specs.Types.{Type', Com, Exp, Var, Pair, Fun, IsGround, IsDone}
use Rattle.gos_types.specs.Events.{Direction}
use Rattle.gos_model.specs.Typing.{Imported}
use Rattle.gos_model.specs.Labels.{Label}
use Rattle.gos_plan.specs.Kinds.{Contact, contacts_of}
use Rattle.gos_plan.specs.Plans.{End, PartEnd, ImportEnd, ResultEnd, Plan, contact_at, contacts_of_import, turned_if, same_end}
use Rattle.gos_plan.specs.Tokens.{Tokens, Element, Fire, Out, In, IsPortEnd, Passes, way_taken, way_put, Does, Runs}
use Rattle.gos_plan.specs.Orderly.{Open, ComesInOrder, AllWelcome, OrderlyFrom}
use Rattle.gos_plan.proofs.DecidedLemmas.{one_state, one_open}
use Rattle.gos_realises.specs.realises.Regular.{Pass, pass, way_in, way_out, is_request, is_open, KeepsTurns, InputsKeepTurns, OutputsKeepTurns}
use Rattle.gos_realises.specs.realises.Matched.{outward, inward, label_at}
use Rattle.gos_realises.specs.realises.Realises.{AllGround, NamesDiffer}
use Rattle.gos_realises.specs.realises.Inputs.{MatchingSuffices}
use Rattle.gos_realises.proofs.realises.RingLemmas.{after}
use Rattle.gos_realises.proofs.realises.ToldLemmas.{told_open, there_is, told_step}

-- what passed, after a list
abbrev pub passed : Plan → List Pass → List Element → List Pass
passed p past [] = past
passed p past (x ∷ xs) = passed p (after p x past) xs

pub passed_then : (p : Plan) (past : List Pass) (ys : List Element) (x : Element) → passed p past (ys ++ x ∷ []) ≡ after p x (passed p past ys)
passed_then p past [] x = refl
passed_then p past (y ∷ ys) x = passed_then p (after p y past) ys x

pub inputs_then : (p : Plan) (past : List Pass) (ys zs : List Element) → InputsKeepTurns p past ys → InputsKeepTurns p (passed p past ys) zs
    → InputsKeepTurns p past (ys ++ zs)
inputs_then p past [] zs one other = other
inputs_then p past (Fire i t ∷ ys) zs one other = inputs_then p past ys zs one other
inputs_then p past (Out e v ∷ ys) zs one other = inputs_then p (after p (Out e v) past) ys zs one other
inputs_then p past (In e v ∷ ys) zs one other = (one.0, inputs_then p (after p (In e v) past) ys zs one.1 other)

pub outputs_last : (p : Plan) (past : List Pass) (ys zs : List Element) → OutputsKeepTurns p past (ys ++ zs) → OutputsKeepTurns p (passed p past ys) zs
outputs_last p past [] zs whole = whole
outputs_last p past (Fire i t ∷ ys) zs whole = outputs_last p past ys zs whole
outputs_last p past (Out e v ∷ ys) zs whole = outputs_last p (after p (Out e v) past) ys zs whole.1
outputs_last p past (In e v ∷ ys) zs whole = outputs_last p (after p (In e v) past) ys zs whole

-- the last element of an orderly list
pub last_order : (p : Plan) (hs : List Element) (y : Element) (o u q : Open) (s t w z : Tokens) → OrderlyFrom p (hs ++ y ∷ []) o s u t
    → OrderlyFrom p hs o s q w → Does p y w z → (m : Open) × ComesInOrder p y w q m × AllWelcome p z
last_order p [] y o u q s t w z (m, v, does, comes, welcome, rest) is also = (
  m,
  subst (λ (a : Tokens). ComesInOrder p y a q m) (sym is.1) (subst (λ (b : Open). ComesInOrder p y s b m) (sym is.0) comes),
  subst (AllWelcome p) (one_state p y w v z (subst (λ (a : Tokens). Does p y a v) (sym is.1) does) also) welcome,
)
last_order p (x ∷ hs) y o u q s t w z (m, v, does, comes, welcome, rest) (n, a, doing, coming, well, more) also =
    let tokens = one_state p x s v a does doing in
    let open_so = one_open p x o m n s v does comes coming in
    last_order p hs y n u q a t w z
    (subst (λ (b : Open). OrderlyFrom p (hs ++ y ∷ []) b a u t) open_so (subst (λ (b : Tokens). OrderlyFrom p (hs ++ y ∷ []) m b u t) tokens rest)) more also

-- an input keeps turns
abbrev pub InputTurns : Plan → List Pass → Element → Type 0
InputTurns p past (Fire i t) = Unit {0}
InputTurns p past (Out e v) = Unit {0}
InputTurns p past (In e v) = KeepsTurns p past (pass e (way_in (contact_at p e)))

-- turns of a list: those of its first element, and those of the rest
pub first_turn : (p : Plan) (past : List Pass) (x : Element) (xs : List Element) → InputsKeepTurns p past (x ∷ xs) → InputTurns p past x
first_turn p past (Fire i t) xs turns = tt
first_turn p past (Out e v) xs turns = tt
first_turn p past (In e v) xs turns = turns.0

pub first_turns : (p : Plan) (past : List Pass) (x : Element) (xs : List Element) → InputsKeepTurns p past (x ∷ xs) → InputsKeepTurns p past (x ∷ [])
first_turns p past (Fire i t) xs turns = tt
first_turns p past (Out e v) xs turns = tt
first_turns p past (In e v) xs turns = (turns.0, tt)

pub later_turns : (p : Plan) (past : List Pass) (x : Element) (xs : List Element) → InputsKeepTurns p past (x ∷ xs) → InputsKeepTurns p (after p x past) xs
later_turns p past (Fire i t) xs turns = turns
later_turns p past (Out e v) xs turns = turns
later_turns p past (In e v) xs turns = turns.1

pub runs_then : (p : Plan) (ys : List Element) (x : Element) (s u w : Tokens) → Runs p ys s u → Does p x u w → Runs p (ys ++ x ∷ []) s w
runs_then p [] x s u w is does = (w, subst (λ a. Does p x a w) is does, refl)
runs_then p (y ∷ ys) x s u w (t, one, more) does = (t, one, runs_then p ys x t u w more does)

-- an input and an output pass an end that is there
pub in_there : (p : Plan) (e : End) (v : ℕ) (s w : Tokens) → Does p (In e v) s w → (c : Contact) × (contact_at p e ≡ Some c)
in_there p e v s w does = by_contact (contact_at p e) refl does.1
  where
    by_contact : (o : Option Contact) → contact_at p e ≡ o → Passes p (In e v) o s w → (c : Contact) × (contact_at p e ≡ Some c)
    by_contact None is h = absurd h
    by_contact (Some c) is h = (c, is)

pub out_there : (p : Plan) (e : End) (v : ℕ) (s w : Tokens) → Does p (Out e v) s w → (c : Contact) × (contact_at p e ≡ Some c)
out_there p e v s w does = by_contact (contact_at p e) refl does.1
  where
    by_contact : (o : Option Contact) → contact_at p e ≡ o → Passes p (Out e v) o s w → (c : Contact) × (contact_at p e ≡ Some c)
    by_contact None is h = absurd h
    by_contact (Some c) is h = (c, is)

-- the result of a command or an expression has one handshake, which asks; those of a ground import serve
pub result_asks : (t : Type') → IsDone t → (h : ℕ) (c : Contact) → turned_if (slice_get (contacts_of t) h) ≡ Some c → (h ≡ 0) × (Ask ≡ c.role)
result_asks Com d zero c is = (refl, ap (λ (x : Contact). x.role) (same_Some _ c is))
result_asks Com d (suc h) c is = absurd (none-some c is)
result_asks (Exp w) d zero c is = (refl, ap (λ (x : Contact). x.role) (same_Some _ c is))
result_asks (Exp w) d (suc h) c is = absurd (none-some c is)
result_asks (Var w) d h c is = absurd d
result_asks (Pair a b) d h c is = absurd d
result_asks (Fun a b) d h c is = absurd d

pub import_serves : (t : Type') → IsGround t → (h : ℕ) (c : Contact) → slice_get (contacts_of t) h ≡ Some c → Serve ≡ c.role
import_serves Com g zero c is = ap (λ (x : Contact). x.role) (same_Some _ c is)
import_serves Com g (suc h) c is = absurd (none-some c is)
import_serves (Exp w) g zero c is = ap (λ (x : Contact). x.role) (same_Some _ c is)
import_serves (Exp w) g (suc h) c is = absurd (none-some c is)
import_serves (Var w) g zero c is = ap (λ (x : Contact). x.role) (same_Some _ c is)
import_serves (Var w) g (suc zero) c is = ap (λ (x : Contact). x.role) (same_Some _ c is)
import_serves (Var w) g (suc (suc h)) c is = absurd (none-some c is)
import_serves (Pair a b) g h c is = absurd g
import_serves (Fun a b) g h c is = absurd g

pub one_ground : (is : List Imported) → AllGround is → (i : ℕ) (x : Imported) → slice_get is i ≡ Some x → IsGround x.ty
one_ground [] ground i x is = absurd (none-some x is)
one_ground (j ∷ js) ground zero x is = subst (λ (y : Imported). IsGround y.ty) (same_Some j x is) ground.0
one_ground (j ∷ js) ground (suc i) x is = one_ground js ground.1 i x is

-- the way of what passes a port's end is the one that is shown
pub outward_way : (p : Plan) → AllGround p.imports → IsDone p.outcome → (e : End) (c : Contact) → contact_at p e ≡ Some c → IsPortEnd e
    → way_out (contact_at p e) ≡ outward e
outward_way p ground done (PartEnd i h) c there port = absurd port
outward_way p ground done (ImportEnd i h) c there port =
    let (x, is) = there_is p.imports i h c there in
    let role = import_serves x.ty (one_ground p.imports ground i x is) h c (sym (ap (λ (o : Option Imported). slice_get (contacts_of_import o) h) is) ∙ there) in
    ap way_out there ∙ sym (ap way_taken role)
outward_way p ground done (ResultEnd h) c there port = ap way_out there ∙ sym (ap way_taken (result_asks p.outcome done h c there).1)

pub inward_way : (p : Plan) → AllGround p.imports → IsDone p.outcome → (e : End) (c : Contact) → contact_at p e ≡ Some c → IsPortEnd e
    → way_in (contact_at p e) ≡ inward e
inward_way p ground done (PartEnd i h) c there port = absurd port
inward_way p ground done (ImportEnd i h) c there port =
    let (x, is) = there_is p.imports i h c there in
    let role = import_serves x.ty (one_ground p.imports ground i x is) h c (sym (ap (λ (o : Option Imported). slice_get (contacts_of_import o) h) is) ∙ there) in
    ap way_in there ∙ sym (ap way_put role)
inward_way p ground done (ResultEnd h) c there port = ap way_in there ∙ sym (ap way_put (result_asks p.outcome done h c there).1)

-- what labels leave open is what passed leaves open
abbrev pub OpenAlike : Plan → List Label → List Pass → Type 0
OpenAlike p ls past = (e : End) (k : Contact) → contact_at p e ≡ Some k → IsPortEnd e → told_open p ls e ≡ is_open past e

pub alike_first : (p : Plan) → OpenAlike p [] []
alike_first p (PartEnd i h) k there port = absurd port
alike_first p (ImportEnd i h) k there port = refl
alike_first p (ResultEnd h) k there port = refl

pub alike_after : (p : Plan) → NamesDiffer p.imports → (d : End) (way : Direction) (v : ℕ) (ls : List Label) (past : List Pass) (c : Contact)
    → contact_at p d ≡ Some c → IsPortEnd d → OpenAlike p ls past → OpenAlike p (label_at p d way v ∷ ls) (pass d way ∷ past)
alike_after p differ d way v ls past c at_d port_d alike e k at_e port_e =
    told_step p differ d e way v ls c k at_d at_e port_d port_e
    ∙ (λ l. if same_end d e then is_request way else alike e k at_e port_e l)

pub alike_out : (p : Plan) → NamesDiffer p.imports → AllGround p.imports → IsDone p.outcome → (e : End) (v : ℕ) (ls : List Label) (past : List Pass) (c : Contact)
    → contact_at p e ≡ Some c → IsPortEnd e → OpenAlike p ls past
    → OpenAlike p (label_at p e (outward e) v ∷ ls) (pass e (way_out (contact_at p e)) ∷ past)
alike_out p differ ground done e v ls past c there port agree =
    subst (λ (way : Direction). OpenAlike p (label_at p e (outward e) v ∷ ls) (pass e way ∷ past)) (sym (outward_way p ground done e c there port))
    (alike_after p differ e (outward e) v ls past c there port agree)

pub alike_in : (p : Plan) → NamesDiffer p.imports → AllGround p.imports → IsDone p.outcome → (e : End) (v : ℕ) (ls : List Label) (past : List Pass) (c : Contact)
    → contact_at p e ≡ Some c → IsPortEnd e → OpenAlike p ls past
    → OpenAlike p (label_at p e (inward e) v ∷ ls) (pass e (way_in (contact_at p e)) ∷ past)
alike_in p differ ground done e v ls past c there port agree =
    subst (λ (way : Direction). OpenAlike p (label_at p e (inward e) v ∷ ls) (pass e way ∷ past)) (sym (inward_way p ground done e c there port))
    (alike_after p differ e (inward e) v ls past c there port agree)

pub matching_suffices : MatchingSuffices
matching_suffices p m regular matched s t xs idle runs turns = (matched s t xs idle runs turns, (regular s t xs idle runs turns).0)
