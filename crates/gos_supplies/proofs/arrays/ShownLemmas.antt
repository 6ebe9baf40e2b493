-- What the whole shows is what its sides show, as each sees it; and the lists of the sides keep turns where that of the whole does.
use Rattle.std.specs.Prelude.{◌≡◌, ℕ, zero, suc, Bool, false, List, [], ◌∷◌, ◌++◌, Option, Some, None, All, slice_get, if◌then◌else◌}
use Rattle.std.specs.Str.{bytes_eq}
use Rattle.std.proofs.Common.{refl, sym, ◌∙◌, ap, subst, arith}
use Rattle.std.proofs.lemmas.Option.{none-some}
use Rattle.gos_types.specs.Events.{Direction, Request, Answer}
use Rattle.gos_types.specs.Types.{Exp, Var, Fun}
use Rattle.gos_model.specs.Terms.{Name}
use Rattle.gos_model.specs.Typing.{Imported}
use Rattle.gos_model.specs.Labels.{Port, Label, given, taken}
use Rattle.gos_plan.specs.Kinds.{Contact}
use Rattle.gos_plan.specs.Firing.{Slot}
use Rattle.gos_plan.specs.Plans.{End, PartEnd, ImportEnd, ResultEnd, Plan, contact_at, contacts_of_import}
use Rattle.gos_plan.specs.Tokens.{Tokens, Element, Fire, Out, In, Does, Runs}
use Rattle.gos_plan.specs.TokenBits.{LiteralFits, AllFit}
use Rattle.gos_plan.proofs.TokenBitsLemmas.{all_stay_fit}
use Rattle.gos_plan.proofs.ElementLemmas.{runs_then}
use Rattle.gos_realises.specs.realises.Matched.{port_if, event_number, label_at, shows, all_shown}
use Rattle.gos_realises.specs.realises.Realises.{NamesDiffer}
use Rattle.gos_realises.proofs.realises.InputLemmas.{in_there, out_there}
use Rattle.gos_realises.proofs.realises.MatchedLemmas.{shown_then}
use Rattle.gos_realises.proofs.realises.PlaceLemmas.{contains_at}
use Rattle.gos_realises.proofs.realises.ToldLemmas.{test_differ}
use Rattle.gos_joining.specs.webs.Cutting.{Cut, cut_tokens}
use Rattle.gos_supplies.specs.names.Names.{imported}
use Rattle.gos_supplies.specs.arrays.Made.{IsAccess}
use Rattle.gos_supplies.proofs.arrays.LabelLemmas.{index_label, index_labels, asked_label, own_label, own_labels, variable_label, name_itself}
use Rattle.gos_supplies.proofs.arrays.ElementLemmas.{of_numbers, whose, own_part, index_part, splits}

-- the list of each side
abbrev pub own_list : Cut → Cut → List Element → List Element
own_list f g [] = []
own_list f g (y ∷ ys) = own_part (whose f g y) ++ own_list f g ys

abbrev pub index_list : Cut → Cut → List Element → List Element
index_list f g [] = []
index_list f g (y ∷ ys) = index_part (whose f g y) ++ index_list f g ys

-- an import that is there has a name
pub import_there : (us : List Imported) (j h : ℕ) (k : Contact) → slice_get (contacts_of_import (slice_get us j)) h ≡ Some k → (y : Imported) × (slice_get us j ≡ Some y)
import_there us j h k there = by_import (slice_get us j) refl there
  where
    by_import : (o : Option Imported) → slice_get us j ≡ o → slice_get (contacts_of_import o) h ≡ Some k → (y : Imported) × (slice_get us j ≡ Some y)
    by_import None at there = absurd (none-some k there)
    by_import (Some y) at there = (y, at)

index_append : (x : Name) (ls ms : List Label) → index_labels x (ls ++ ms) ≡ index_labels x ls ++ index_labels x ms
index_append x [] ms = refl
index_append x (l ∷ ls) ms =
    ap (λ (z : List Label). index_label x l.port l.event l.value ++ z) (index_append x ls ms)
    ∙ sym (append_in (index_label x l.port l.event l.value) (index_labels x ls) (index_labels x ms))
  where
    append_in : (a b c : List Label) → (a ++ b) ++ c ≡ a ++ (b ++ c)
    append_in [] b c = refl
    append_in (z ∷ a) b c = ap (λ (w : List Label). z ∷ w) (append_in a b c)

own_append : (x : Name) (ls ms : List Label) → own_labels x (ls ++ ms) ≡ own_labels x ls ++ own_labels x ms
own_append x [] ms = refl
own_append x (l ∷ ls) ms =
    ap (λ (z : List Label). own_label x l.port l.event l.value ++ z) (own_append x ls ms)
    ∙ sym (append_in (own_label x l.port l.event l.value) (own_labels x ls) (own_labels x ms))
  where
    append_in : (a b c : List Label) → (a ++ b) ++ c ≡ a ++ (b ++ c)
    append_in [] b c = refl
    append_in (z ∷ a) b c = ap (λ (w : List Label). z ∷ w) (append_in a b c)

-- an event of a later handshake
later_twice : (h : ℕ) (way : Direction) → event_number way (suc h) ≡ suc (suc (event_number way h))
later_twice h Request = omega arith
later_twice h Answer = omega arith

module _ (i w : ℕ) (x : Name) (f g : Cut) (r p q : Plan) (is : IsAccess i w x f g r p q) (differ : NamesDiffer r.imports) where
  abbrev all : List Imported
  all = imported x (Fun (Exp i) (Var w)) ∷ q.imports

  names : NamesDiffer all
  names = subst NamesDiffer is.imports differ

  pub port_of : (j : ℕ) → port_if (slice_get r.imports j) ≡ port_if (slice_get all j)
  port_of j = ap (λ (us : List Imported). port_if (slice_get us j)) is.imports

  -- the names of the index' imports are others
  pub other_name : (j : ℕ) (y : Imported) → slice_get q.imports j ≡ Some y → bytes_eq y.name x ≡ false
  other_name j y at = test_differ y.name x (λ same. names.0 y (contains_at q.imports j y at) (sym same))

  -- the label of an event at a port of the whole, as each side sees it
  module _ (way : Direction) (v : ℕ) where
    abbrev At : End → Label
    At e = label_at r e way v

    pub first_port : (h : ℕ) → At (ImportEnd 0 h) ≡ taken x (event_number way h) v
    first_port h = ap (λ (z : Port). record { port = z; event = event_number way h; value = v }) (port_of 0)

    pub other_port : (j h : ℕ) (y : Imported) → slice_get q.imports j ≡ Some y → At (ImportEnd (suc j) h) ≡ taken y.name (event_number way h) v
    other_port j h y at =
        ap (λ (z : Port). record { port = z; event = event_number way h; value = v }) (port_of (suc j) ∙ ap port_if at)

    -- of the array's later handshakes the index sees nothing, and the access' own plan those of the variable
    later_index : (h : ℕ) → index_labels x (At (ImportEnd 0 (suc h)) ∷ []) ≡ []
    later_index h =
        ap (λ (l : Label). index_labels x (l ∷ [])) (first_port (suc h))
        ∙ (ap (λ (e : ℕ). index_labels x (taken x e v ∷ [])) (later_twice h way)
        ∙ ap (λ (b : Bool). (if b then [] else taken x (suc (suc (event_number way h))) v ∷ []) ++ []) (name_itself x))

    later_own : (h : ℕ) → own_labels x (At (ImportEnd 0 (suc h)) ∷ []) ≡ taken x (event_number way h) v ∷ []
    later_own h =
        ap (λ (l : Label). own_labels x (l ∷ [])) (first_port (suc h))
        ∙ (ap (λ (e : ℕ). own_labels x (taken x e v ∷ [])) (later_twice h way)
        ∙ ap (λ (b : Bool). (if b then taken x (event_number way h) v ∷ [] else []) ++ []) (name_itself x))

    other_index : (j h : ℕ) (y : Imported) → slice_get q.imports j ≡ Some y
        → index_labels x (At (ImportEnd (suc j) h) ∷ []) ≡ label_at q (ImportEnd j h) way v ∷ []
    other_index j h y at =
        ap (λ (l : Label). index_labels x (l ∷ [])) (other_port j h y at)
        ∙ (ap (λ (b : Bool). (if b then asked_label (event_number way h) v else taken y.name (event_number way h) v ∷ []) ++ []) (other_name j y at)
        ∙ ap (λ (o : Option Imported). record { port = port_if o; event = event_number way h; value = v } ∷ []) (sym at))

    other_own : (j h : ℕ) (y : Imported) → slice_get q.imports j ≡ Some y → own_labels x (At (ImportEnd (suc j) h) ∷ []) ≡ []
    other_own j h y at =
        ap (λ (l : Label). own_labels x (l ∷ [])) (other_port j h y at)
        ∙ ap (λ (b : Bool). (if b then variable_label x (event_number way h) v else []) ++ []) (other_name j y at)

    own_variable : (h : ℕ) → label_at p (ImportEnd 0 h) way v ≡ taken x (event_number way h) v
    own_variable h =
        ap (λ (us : List Imported). record { port = port_if (slice_get us 0); event = event_number way h; value = v }) is.variable

  -- the array asks, and is told
  asks_index : (v : ℕ) → index_labels x (label_at r (ImportEnd 0 0) Answer v ∷ []) ≡ given 0 v ∷ []
  asks_index v =
      ap (λ (l : Label). index_labels x (l ∷ [])) (first_port Answer v 0) ∙ ap (λ (b : Bool). (if b then given 0 v ∷ [] else taken x 1 v ∷ []) ++ []) (name_itself x)

  tells_index : (v : ℕ) → index_labels x (label_at r (ImportEnd 0 0) Request v ∷ []) ≡ given 1 v ∷ []
  tells_index v =
      ap (λ (l : Label). index_labels x (l ∷ [])) (first_port Request v 0) ∙ ap (λ (b : Bool). (if b then given 1 v ∷ [] else taken x 0 v ∷ []) ++ []) (name_itself x)

  asks_own : (v : ℕ) → own_labels x (label_at r (ImportEnd 0 0) Answer v ∷ []) ≡ []
  asks_own v =
      ap (λ (l : Label). own_labels x (l ∷ [])) (first_port Answer v 0) ∙ ap (λ (b : Bool). (if b then [] else []) ++ []) (name_itself x)

  tells_own : (v : ℕ) → own_labels x (label_at r (ImportEnd 0 0) Request v ∷ []) ≡ []
  tells_own v =
      ap (λ (l : Label). own_labels x (l ∷ [])) (first_port Request v 0) ∙ ap (λ (b : Bool). (if b then [] else []) ++ []) (name_itself x)

  -- of each element
  pub record Seen (y : Element) : Type 0 where
    pub own : all_shown p (own_part (whose f g y)) ≡ own_labels x (shows r y)
    pub index : all_shown q (index_part (whose f g y)) ≡ index_labels x (shows r y)

  seen_fire : (k : ℕ) (t : Slot) → Seen (Fire k t)
  seen_fire k t = by_numbers (f.number k) (g.number k)
    where
      by_numbers : (a b : Option ℕ) → Seen (Fire k t)
      by_numbers a b = record { own = own_none (f.number k) (g.number k); index = index_none (f.number k) (g.number k) }
        where
          own_none : (a b : Option ℕ) → all_shown p (own_part (of_numbers a b t)) ≡ []
          own_none (Some j) b = refl
          own_none None (Some j) = refl
          own_none None None = refl

          index_none : (a b : Option ℕ) → all_shown q (index_part (of_numbers a b t)) ≡ []
          index_none (Some j) b = refl
          index_none None (Some j) = refl
          index_none None None = refl

  pub there_by : (j h : ℕ) (k : Contact) → contact_at r (ImportEnd (suc j) h) ≡ Some k → (y : Imported) × (slice_get q.imports j ≡ Some y)
  there_by j h k there =
      import_there q.imports j h k (sym (ap (λ (us : List Imported). slice_get (contacts_of_import (slice_get us (suc j))) h) is.imports) ∙ there)

  pub seen : (y : Element) (s t : Tokens) → Does r y s t → Seen y
  seen (Fire k slot) s t does = seen_fire k slot
  seen (Out (PartEnd j h) v) s t does = absurd does.0
  seen (Out (ImportEnd zero zero) v) s t does = record { own = sym (tells_own v); index = sym (tells_index v) }
  seen (Out (ImportEnd zero (suc h)) v) s t does =
      record { own = ap (λ (l : Label). l ∷ []) (own_variable Request v h) ∙ sym (later_own Request v h); index = sym (later_index Request v h) }
  seen (Out (ImportEnd (suc j) h) v) s t does =
      let (k, there) = out_there r (ImportEnd (suc j) h) v s t does in
      let (y, at) = there_by j h k there in
      record { own = sym (other_own Request v j h y at); index = sym (other_index Request v j h y at) }
  seen (Out (ResultEnd h) v) s t does = record { own = refl; index = refl }
  seen (In (PartEnd j h) v) s t does = absurd does.0
  seen (In (ImportEnd zero zero) v) s t does = record { own = sym (asks_own v); index = sym (asks_index v) }
  seen (In (ImportEnd zero (suc h)) v) s t does =
      record { own = ap (λ (l : Label). l ∷ []) (own_variable Answer v h) ∙ sym (later_own Answer v h); index = sym (later_index Answer v h) }
  seen (In (ImportEnd (suc j) h) v) s t does =
      let (k, there) = in_there r (ImportEnd (suc j) h) v s t does in
      let (y, at) = there_by j h k there in
      record { own = sym (other_own Answer v j h y at); index = sym (other_index Answer v j h y at) }
  seen (In (ResultEnd h) v) s t does = record { own = refl; index = refl }

  -- of a whole list
  pub own_seen : (ys : List Element) (s t : Tokens) → Runs r ys s t → all_shown p (own_list f g ys) ≡ own_labels x (all_shown r ys)
  own_seen [] s t runs = refl
  own_seen (y ∷ ys) s t (u, does, runs) =
      shown_then p (own_part (whose f g y)) (own_list f g ys)
      ∙ ((λ l. (seen y s u does).own l ++ own_seen ys u t runs l) ∙ sym (own_append x (shows r y) (all_shown r ys)))

  pub index_seen : (ys : List Element) (s t : Tokens) → Runs r ys s t → all_shown q (index_list f g ys) ≡ index_labels x (all_shown r ys)
  index_seen [] s t runs = refl
  index_seen (y ∷ ys) s t (u, does, runs) =
      shown_then q (index_part (whose f g y)) (index_list f g ys)
      ∙ ((λ l. (seen y s u does).index l ++ index_seen ys u t runs l) ∙ sym (index_append x (shows r y) (all_shown r ys)))

  -- and the sides' lists are possible
  module _ (literals : All LiteralFits r.parts) where
    pub own_runs : (ys : List Element) (s t : Tokens) → AllFit r s → Runs r ys s t → Runs p (own_list f g ys) (cut_tokens f p s) (cut_tokens f p t)
    own_runs [] s t fit runs = ap (cut_tokens f p) runs
    own_runs (y ∷ ys) s t fit (u, does, runs) =
        let one = splits i w x f g r p q is literals s u fit y does in
        let now = all_stay_fit r (y ∷ []) s u is.own.whole_right literals fit (u, does, refl) in
        runs_then p (own_part (whose f g y)) (own_list f g ys) (cut_tokens f p s) (cut_tokens f p u) (cut_tokens f p t) one.own (own_runs ys u t now runs)

    pub index_runs : (ys : List Element) (s t : Tokens) → AllFit r s → Runs r ys s t → Runs q (index_list f g ys) (cut_tokens g q s) (cut_tokens g q t)
    index_runs [] s t fit runs = ap (cut_tokens g q) runs
    index_runs (y ∷ ys) s t fit (u, does, runs) =
        let one = splits i w x f g r p q is literals s u fit y does in
        let now = all_stay_fit r (y ∷ []) s u is.own.whole_right literals fit (u, does, refl) in
        runs_then q (index_part (whose f g y)) (index_list f g ys) (cut_tokens g q s) (cut_tokens g q u) (cut_tokens g q t) one.index (index_runs ys u t now runs)
