-- What labels leave open at ports is what passed there leaves open, also at arrays.
--
-- A label has the number of what the program puts, or takes. At the index of an array, its handshake 0, the array asks and
-- the program answers: there an input opens, and an output closes.
use Rattle.std.specs.Prelude.{◌≡◌, ℕ, zero, suc, Bool, true, false, not, ◌&&◌, List, [], ◌∷◌, Option, Some, None, slice_get, nat_eq, if◌then◌else◌}
use Rattle.std.proofs.Common.{refl, sym, ◌∙◌, ap, subst, inl, inr}
use Rattle.std.proofs.lemmas.Option.{none-some, same_Some}
use Rattle.gos_types.specs.Types.{Type', Com, Exp, Var, Pair, Fun, IsGround, IsArray, IsPort, IsDone}
use Rattle.gos_types.specs.Events.{Direction, Request, Answer}
use Rattle.gos_model.specs.Typing.{Imported}
use Rattle.gos_model.specs.Labels.{Label, is_answer}
use Rattle.gos_model.specs.Protocol.{same_port}
use Rattle.gos_model.specs.ArrayPorts.{is_asked}
use Rattle.gos_plan.specs.Kinds.{Contact, contacts_of}
use Rattle.gos_plan.specs.Plans.{End, PartEnd, ImportEnd, ResultEnd, Plan, contact_at, contacts_of_import, same_end}
use Rattle.gos_plan.specs.Tokens.{IsPortEnd, way_taken, way_put}
use Rattle.gos_plan.proofs.JointLemmas.{same_is}
use Rattle.gos_realises.specs.realises.Regular.{Pass, pass, way_in, way_out, is_request, is_open}
use Rattle.gos_realises.specs.realises.Matched.{port_if, event_number, outward, inward, label_at}
use Rattle.gos_realises.specs.realises.Realises.{AllPorts, NamesDiffer}
use Rattle.gos_realises.proofs.realises.InputLemmas.{result_asks}
use Rattle.gos_realises.proofs.realises.ToldLemmas.{told_open, one_name, shake_event, asks_event, there_is, told_step}

-- whether a handshake of an import is the index of an array
abbrev pub is_index : Type' → ℕ → Bool
is_index (Fun a b) zero = true
is_index t h = false

abbrev pub index_at : Option Imported → ℕ → Bool
index_at None h = false
index_at (Some x) h = is_index x.ty h

abbrev pub index_end : Plan → End → Bool
index_end p (PartEnd i h) = false
index_end p (ImportEnd i h) = index_at (slice_get p.imports i) h
index_end p (ResultEnd h) = false

-- which handshakes at ports labels leave open
abbrev pub asked_at : List Label → Option Imported → Bool
asked_at past None = false
asked_at past (Some x) = is_asked past x.name

abbrev pub port_open : Plan → List Label → End → Bool
port_open p past (PartEnd i h) = told_open p past (PartEnd i h)
port_open p past (ImportEnd i h) =
    if index_at (slice_get p.imports i) h then asked_at past (slice_get p.imports i) else told_open p past (ImportEnd i h)
port_open p past (ResultEnd h) = told_open p past (ResultEnd h)

-- the way of what passes, by which event of its handshake is shown
abbrev pub opposite : Direction → Direction
opposite Request = Answer
opposite Answer = Request

abbrev pub passing : Plan → End → Direction → Direction
passing p e way = if index_end p e then opposite way else way

index_is_first : (t : Type') (h : ℕ) → is_index t h ≡ true → h ≡ 0
index_is_first Com h e = absurd (cc e)
index_is_first (Exp w) h e = absurd (cc e)
index_is_first (Var w) h e = absurd (cc e)
index_is_first (Pair a b) h e = absurd (cc e)
index_is_first (Fun a b) zero e = refl
index_is_first (Fun a b) (suc h) e = absurd (cc e)

first_index : (o : Option Imported) (h : ℕ) → index_at o h ≡ true → h ≡ 0
first_index None h e = absurd (cc e)
first_index (Some x) h e = index_is_first x.ty h e

-- one label more: whether an index is asked for
asked_step : (p : Plan) → NamesDiffer p.imports → (j g i : ℕ) (way : Direction) (v : ℕ) (ls : List Label) (y x : Imported)
    → slice_get p.imports j ≡ Some y → slice_get p.imports i ≡ Some x
    → is_asked (label_at p (ImportEnd j g) way v ∷ ls) x.name ≡ (if nat_eq j i && nat_eq g 0 then not (is_request way) else is_asked ls x.name)
asked_step p differ j g i way v ls y x at_j at_i =
    let port = ap port_if at_j in
    let name = one_name p.imports differ j i y x at_j at_i in
    (λ l. if same_port (port l) (port_if (Some x)) && nat_eq (shake_event way g l) 0 then is_answer (event_number way g) else is_asked ls x.name)
    ∙ (λ l. if name l && nat_eq g 0 then answers way g l else is_asked ls x.name)
  where
    twice_not : (b : Bool) → b ≡ not (not b)
    twice_not true = refl
    twice_not false = refl

    answers : (way : Direction) (g : ℕ) → is_answer (event_number way g) ≡ not (is_request way)
    answers way g = twice_not (is_answer (event_number way g)) ∙ ap not (asks_event way g)

asked_given : (p : Plan) (g : ℕ) (way : Direction) (v : ℕ) (ls : List Label) (o : Option Imported)
    → asked_at (label_at p (ResultEnd g) way v ∷ ls) o ≡ asked_at ls o
asked_given p g way v ls None = refl
asked_given p g way v ls (Some x) = refl

asked_of : (p : Plan) → NamesDiffer p.imports → (j g i : ℕ) (way : Direction) (v : ℕ) (ls : List Label) (y x : Imported)
    → slice_get p.imports j ≡ Some y → slice_get p.imports i ≡ Some x
    → asked_at (label_at p (ImportEnd j g) way v ∷ ls) (slice_get p.imports i)
    ≡ (if nat_eq j i && nat_eq g 0 then not (is_request way) else asked_at ls (slice_get p.imports i))
asked_of p differ j g i way v ls y x at_j at_i =
    ap (asked_at (label_at p (ImportEnd j g) way v ∷ ls)) at_i
    ∙ (asked_step p differ j g i way v ls y x at_j at_i
    ∙ (λ l. if nat_eq j i && nat_eq g 0 then not (is_request way) else asked_at ls (sym at_i l)))

-- index, same: whether the end is an index, and the same as that of the label; first: whether that of the label is of handshake 0
chosen : (way : Direction) (index theirs same first asked told : Bool) → (index ≡ true → first ≡ same) → (same ≡ true → theirs ≡ index)
    → (if index then (if first then not (is_request way) else asked) else (if same then is_request way else told))
    ≡ (if same then is_request (if theirs then opposite way else way) else (if index then asked else told))
chosen Request true true true true asked told firsts alike = refl
chosen Answer true true true true asked told firsts alike = refl
chosen way true false true first asked told firsts alike = absurd (cc (alike refl))
chosen way true true true false asked told firsts alike = absurd (cc (firsts refl))
chosen way true theirs false true asked told firsts alike = absurd (cc (firsts refl))
chosen way true theirs false false asked told firsts alike = refl
chosen way false true true first asked told firsts alike = absurd (cc (alike refl))
chosen way false false true first asked told firsts alike = refl
chosen way false theirs false first asked told firsts alike = refl

pub port_step : (p : Plan) → NamesDiffer p.imports → (d e : End) (way : Direction) (v : ℕ) (ls : List Label) (c k : Contact)
    → contact_at p d ≡ Some c → contact_at p e ≡ Some k → IsPortEnd d → IsPortEnd e
    → port_open p (label_at p d way v ∷ ls) e ≡ (if same_end d e then is_request (passing p d way) else port_open p ls e)
port_step p differ (PartEnd j g) e way v ls c k at_d at_e port_d port_e = absurd port_d
port_step p differ d (PartEnd i h) way v ls c k at_d at_e port_d port_e = absurd port_e
port_step p differ (ResultEnd g) (ResultEnd h) way v ls c k at_d at_e port_d port_e =
    told_step p differ (ResultEnd g) (ResultEnd h) way v ls c k at_d at_e port_d port_e
port_step p differ (ImportEnd j g) (ResultEnd h) way v ls c k at_d at_e port_d port_e =
    told_step p differ (ImportEnd j g) (ResultEnd h) way v ls c k at_d at_e port_d port_e
port_step p differ (ResultEnd g) (ImportEnd i h) way v ls c k at_d at_e port_d port_e =
    λ l. if index_at (slice_get p.imports i) h then asked_given p g way v ls (slice_get p.imports i) l
    else told_step p differ (ResultEnd g) (ImportEnd i h) way v ls c k at_d at_e port_d port_e l
port_step p differ (ImportEnd j g) (ImportEnd i h) way v ls c k at_d at_e port_d port_e =
    let (y, at_j) = there_is p.imports j g c at_d in
    let (x, at_i) = there_is p.imports i h k at_e in
    let index = index_at (slice_get p.imports i) h in
    (λ l. if index_at (slice_get p.imports i) h then asked_of p differ j g i way v ls y x at_j at_i l
    else told_step p differ (ImportEnd j g) (ImportEnd i h) way v ls c k at_d at_e port_d port_e l)
    ∙ chosen way index (index_at (slice_get p.imports j) g) (nat_eq j i && nat_eq g h) (nat_eq j i && nat_eq g 0)
    (asked_at ls (slice_get p.imports i)) (told_open p ls (ImportEnd i h))
    (λ e. ap (λ (n : ℕ). nat_eq j i && nat_eq g n) (sym (first_index (slice_get p.imports i) h e)))
    (λ e. ap (index_end p) (same_is (ImportEnd j g) (ImportEnd i h) e))

-- an array's type
pub array_is : (t : Type') → IsArray t → (i : ℕ) × (w : ℕ) × (t ≡ Fun (Exp i) (Var w))
array_is Com a = absurd a
array_is (Exp w) a = absurd a
array_is (Var w) a = absurd a
array_is (Pair b c) a = absurd a
array_is (Fun Com c) a = absurd a
array_is (Fun (Var v) c) a = absurd a
array_is (Fun (Pair b d) c) a = absurd a
array_is (Fun (Fun b d) c) a = absurd a
array_is (Fun (Exp i) Com) a = absurd a
array_is (Fun (Exp i) (Exp w)) a = absurd a
array_is (Fun (Exp i) (Pair b c)) a = absurd a
array_is (Fun (Exp i) (Fun b c)) a = absurd a
array_is (Fun (Exp i) (Var w)) a = (i, w, refl)

pub port_at : (is : List Imported) → AllPorts is → (i : ℕ) (x : Imported) → slice_get is i ≡ Some x → IsPort x.ty
port_at [] ports i x is = absurd (none-some x is)
port_at (j ∷ js) ports zero x is = subst (λ (y : Imported). IsPort y.ty) (same_Some j x is) ports.0
port_at (j ∷ js) ports (suc i) x is = port_at js ports.1 i x is

-- the ways of what passes at a port
abbrev Ways : Type' → ℕ → Type 0
Ways t h =
    (c : Contact) → slice_get (contacts_of t) h ≡ Some c
    → (way_taken c.role ≡ (if is_index t h then Answer else Request)) × (way_put c.role ≡ (if is_index t h then Request else Answer))

abbrev Both : Type' → ℕ → Contact → Type 0
Both t h c = (way_taken c.role ≡ (if is_index t h then Answer else Request)) × (way_put c.role ≡ (if is_index t h then Request else Answer))

ground_ways : (t : Type') → IsGround t → (h : ℕ) → Ways t h
ground_ways Com g zero c is = subst (Both Com 0) (same_Some _ c is) (refl, refl)
ground_ways Com g (suc h) c is = absurd (none-some c is)
ground_ways (Exp w) g zero c is = subst (Both (Exp w) 0) (same_Some _ c is) (refl, refl)
ground_ways (Exp w) g (suc h) c is = absurd (none-some c is)
ground_ways (Var w) g zero c is = subst (Both (Var w) 0) (same_Some _ c is) (refl, refl)
ground_ways (Var w) g (suc zero) c is = subst (Both (Var w) 1) (same_Some _ c is) (refl, refl)
ground_ways (Var w) g (suc (suc h)) c is = absurd (none-some c is)
ground_ways (Pair a b) g h c is = absurd g
ground_ways (Fun a b) g h c is = absurd g

array_ways : (i w h : ℕ) → Ways (Fun (Exp i) (Var w)) h
array_ways i w zero c is = subst (Both (Fun (Exp i) (Var w)) 0) (same_Some _ c is) (refl, refl)
array_ways i w (suc zero) c is = subst (Both (Fun (Exp i) (Var w)) 1) (same_Some _ c is) (refl, refl)
array_ways i w (suc (suc zero)) c is = subst (Both (Fun (Exp i) (Var w)) 2) (same_Some _ c is) (refl, refl)
array_ways i w (suc (suc (suc h))) c is = absurd (none-some c is)

pub port_ways : (t : Type') → IsPort t → (h : ℕ) → Ways t h
port_ways t (inl ground) h = ground_ways t ground h
port_ways t (inr array) h =
    let (i, w, is) = array_is t array in subst (λ (u : Type'). Ways u h) (sym is) (array_ways i w h)

module _ (p : Plan) (ports : AllPorts p.imports) (done : IsDone p.outcome) where
  import_ways : (i h : ℕ) (c : Contact) → contact_at p (ImportEnd i h) ≡ Some c
      → (way_taken c.role ≡ passing p (ImportEnd i h) Request) × (way_put c.role ≡ passing p (ImportEnd i h) Answer)
  import_ways i h c there =
      let (x, is) = there_is p.imports i h c there in
      let ways = port_ways x.ty (port_at p.imports ports i x is) h c (sym (ap (λ (o : Option Imported). slice_get (contacts_of_import o) h) is) ∙ there) in
      let same : is_index x.ty h ≡ index_at (slice_get p.imports i) h = sym (ap (λ (o : Option Imported). index_at o h) is) in (
        ways.0 ∙ (λ l. if same l then Answer else Request),
        ways.1 ∙ (λ l. if same l then Request else Answer),
      )

  pub out_passing : (e : End) (c : Contact) → contact_at p e ≡ Some c → IsPortEnd e → way_out (contact_at p e) ≡ passing p e (outward e)
  out_passing (PartEnd i h) c there port = absurd port
  out_passing (ImportEnd i h) c there port = ap way_out there ∙ (import_ways i h c there).0
  out_passing (ResultEnd h) c there port = ap way_out there ∙ sym (ap way_taken (result_asks p.outcome done h c there).1)

  pub in_passing : (e : End) (c : Contact) → contact_at p e ≡ Some c → IsPortEnd e → way_in (contact_at p e) ≡ passing p e (inward e)
  in_passing (PartEnd i h) c there port = absurd port
  in_passing (ImportEnd i h) c there port = ap way_in there ∙ (import_ways i h c there).1
  in_passing (ResultEnd h) c there port = ap way_in there ∙ sym (ap way_put (result_asks p.outcome done h c there).1)

-- what labels leave open is what passed leaves open
abbrev pub PortsAlike : Plan → List Label → List Pass → Type 0
PortsAlike p ls past = (e : End) (k : Contact) → contact_at p e ≡ Some k → IsPortEnd e → port_open p ls e ≡ is_open past e

pub ports_alike_first : (p : Plan) → PortsAlike p [] []
ports_alike_first p (PartEnd i h) k there port = absurd port
ports_alike_first p (ImportEnd i h) k there port = none_asked (slice_get p.imports i) (index_at (slice_get p.imports i) h)
  where
    none_asked : (o : Option Imported) (b : Bool) → (if b then asked_at [] o else false) ≡ false
    none_asked o false = refl
    none_asked None true = refl
    none_asked (Some x) true = refl
ports_alike_first p (ResultEnd h) k there port = refl

pub ports_alike_after : (p : Plan) → NamesDiffer p.imports → (d : End) (way : Direction) (v : ℕ) (ls : List Label) (past : List Pass) (c : Contact)
    → contact_at p d ≡ Some c → IsPortEnd d → PortsAlike p ls past → PortsAlike p (label_at p d way v ∷ ls) (pass d (passing p d way) ∷ past)
ports_alike_after p differ d way v ls past c at_d port_d alike e k at_e port_e =
    port_step p differ d e way v ls c k at_d at_e port_d port_e
    ∙ (λ l. if same_end d e then is_request (passing p d way) else alike e k at_e port_e l)
