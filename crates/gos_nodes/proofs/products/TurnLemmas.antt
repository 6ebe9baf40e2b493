-- What passed a side's ports, and the whole's: the open handshakes of the whole are those of the side, and so are its turns.
use Rattle.std.specs.Prelude.{◌+◌, ◌-◌, ◌<◌, slice_get, nat_lt, IsTrue}
use Rattle.std.proofs.lemmas.Option.{slice_get_within}
use Rattle.std.proofs.Common.{◌≡◌, ℕ, Bool, true, false, List, [], ◌∷◌, ◌⊎◌, Option, Some, inl, inr, refl, sym, ◌∙◌, ap, subst, arith, if◌then◌else◌}
use Rattle.std.proofs.lemmas.Bool.Decides.{nat_tests}
use Rattle.gos_types.specs.declared.shakes.Role.{Role}
use Rattle.gos_types.specs.declared.shakes.Role.TheVariants.{Serve, Ask}
use Rattle.gos_types.specs.Events.{Direction, Request, Answer}
use Rattle.gos_types.proofs.BoolLemmas.{true_is_not_false}
use Rattle.gos_types.proofs.ListLemmas.{element_at}
use Rattle.gos_model.specs.Typing.{Imported}
use Rattle.gos_plan.specs.Kinds.{Contact, contacts_of}
use Rattle.gos_plan.specs.Plans.{End, PartEnd, ImportEnd, ResultEnd, Plan, contact_at, contacts_of_import, turned_if, same_end}
use Rattle.gos_plan.specs.Tokens.{Tokens, In, IsPortEnd, way_put, Does}
use Rattle.gos_plan.proofs.JointLemmas.{same_is}
use Rattle.gos_realises.specs.realises.Regular.{Pass, pass, way_in, is_request, is_open, count, some_open, beyond, KeepsTurnsOf, whole_type, whole_end, ComesInTurn, KeepsTurns}
use Rattle.gos_realises.proofs.realises.GroundTurnLemmas.{some_there, there_some}
use Rattle.gos_realises.proofs.realises.InputLemmas.{in_there}
use Rattle.gos_realises.proofs.realises.CountLemmas.{below_count}
use Rattle.gos_joining.proofs.renumbered.TurnLemmas.{of_import, of_result, ImportKeeps, EachKeeps, keeps_each, each_keeps, turns_agree}
use Rattle.gos_nodes.proofs.windows.TurnLemmas.{Turned, open_before}
use Rattle.gos_nodes.proofs.windows.TypeTurnLemmas.{closed_kept}
use Rattle.gos_nodes.specs.products.Both.{Side}
use Rattle.gos_nodes.proofs.products.PlaceLemmas.{IsLaid, import_number, import_there, at, Port, port_result, port_import, same_contact, same_at, Met, met_port, met_used, result_met, import_met}

-- whether one of so many numbers, from n on, is m
pub in_range : (n l m : ℕ) → ((h : ℕ) × (h < l) × (n + h ≡ m)) ⊎ ((h : ℕ) → h < l → n + h ≡ m → ⊥)
in_range n l m = by_low (nat_lt m n) refl
  where
    by_high : nat_lt m n ≡ false → (b : Bool) → nat_lt (m - n) l ≡ b → ((h : ℕ) × (h < l) × (n + h ≡ m)) ⊎ ((h : ℕ) → h < l → n + h ≡ m → ⊥)
    by_high low true t =
        let sum : n + (m - n) ≡ m = grind (arith, nat_tests, low) in
        let less : m - n < l = grind (arith, nat_tests, t) in inl (m - n, less, sum)
    by_high low false t = inr (λ h less same. let clash : ⊥ = grind (arith, nat_tests, t, low, less, same) in clash)

    by_low : (b : Bool) → nat_lt m n ≡ b → ((h : ℕ) × (h < l) × (n + h ≡ m)) ⊎ ((h : ℕ) → h < l → n + h ≡ m → ⊥)
    by_low true t = inr (λ h less same. let clash : ⊥ = grind (arith, nat_tests, t, same) in clash)
    by_low false t = by_high t (nat_lt (m - n) l) refl

-- turns of a plan, import by import
pub each_of : (p : Plan) (past : List Pass) → Turned p past
    → ((i : ℕ) (x : Imported) → slice_get p.imports i ≡ Some x → ImportKeeps (is_open past) i x p.outcome) × KeepsTurnsOf p.outcome (of_result (is_open past))
each_of p past turned = (
  λ i x here.
      (let zeros : 0 + i ≡ i = omega arith in subst (λ (m : ℕ). ImportKeeps (is_open past) m x p.outcome) zeros (each.0 i x here)),
  each.1,
)
  where
    each : EachKeeps 0 p.imports p.outcome (is_open past)
    each = keeps_each 0 p.imports p.outcome (λ h. is_open past (whole_end 0 p.imports h)) (is_open past) (λ h. refl) turned

pub of_each : (p : Plan) (past : List Pass) → ((i : ℕ) (x : Imported) → slice_get p.imports i ≡ Some x → ImportKeeps (is_open past) i x p.outcome)
    → KeepsTurnsOf p.outcome (of_result (is_open past)) → Turned p past
of_each p past imports result =
    each_keeps 0 p.imports p.outcome (λ h. is_open past (whole_end 0 p.imports h)) (is_open past) (λ h. refl) (
      λ i x here.
          (let zeros : i ≡ 0 + i = omega arith in subst (λ (m : ℕ). ImportKeeps (is_open past) m x p.outcome) zeros (imports i x here)),
      result,
    )

pub none_turned : (p : Plan) → Turned p []
none_turned p = closed_kept (whole_type p.imports p.outcome) (λ h. is_open [] (whole_end 0 p.imports h)) (λ h low. refl)

module _ (r : Plan) (n : ℕ) (g : Side) (is : IsLaid r n g) where
  pub record Follows (own past : List Pass) : Type 0 where
    pub same : (e : End) → Port r n g is e → is_open own e ≡ is_open past (at r n g is e)
    pub only : (b : End) → is_open past b ≡ true → (e : End) × Met r n g is e × (at r n g is e ≡ b)
    pub met : (e : End) → is_open own e ≡ true → Met r n g is e

  pub import_of : (e : End) (k m : ℕ) → at r n g is e ≡ ImportEnd k m → (i : ℕ) × (import_number r n g is i ≡ k) × (e ≡ ImportEnd i m)
  import_of (PartEnd i h) k m same = absurd (cc same)
  import_of (ImportEnd i h) k m same =
      let imports : import_number r n g is i ≡ k = cc same in
      let shakes : h ≡ m = cc same in (i, imports, ap (ImportEnd i) shakes)
  import_of (ResultEnd h) k m same = absurd (cc same)

  pub result_of : (e : End) (m : ℕ) → at r n g is e ≡ ResultEnd m → (h : ℕ) × (n + h ≡ m) × (e ≡ ResultEnd h)
  result_of (PartEnd i h) m same = absurd (cc same)
  result_of (ImportEnd i h) m same = absurd (cc same)
  result_of (ResultEnd h) m same = let sums : n + h ≡ m = cc same in (h, sums, refl)

  pub result_port : (h : ℕ) → h < count g.plan.outcome → Port r n g is (ResultEnd h)
  result_port h low =
      let (c, there) = element_at (contacts_of g.plan.outcome) h low in
      record { port = tt; contact = _; there = ap turned_if there }

  pub import_port : (i h : ℕ) (x : Imported) → slice_get g.plan.imports i ≡ Some x → h < count x.ty → Port r n g is (ImportEnd i h)
  import_port i h x here low =
      let (c, there) = element_at (contacts_of x.ty) h low in
      record { port = tt; contact = c; there = ap (λ (o : Option Imported). slice_get (contacts_of_import o) h) here ∙ there }

  -- what passes
  pub follows_pass : (own past : List Pass) → Follows own past → (e : End) → Met r n g is e → (way : Direction)
      → Follows (pass e way ∷ own) (pass (at r n g is e) way ∷ past)
  follows_pass own past follows e met way =
      record {
        same = λ d port.
            (let ends = same_at r n g is e d (met_port r n g is e met) port in λ l. if sym ends l then is_request way else follows.same d port l);
        only = λ b up. of_only b (same_end (at r n g is e) b) refl up;
        met = λ d up. of_met d (same_end e d) refl up;
      }
    where
      of_only : (b : End) (t : Bool) → same_end (at r n g is e) b ≡ t → (if t then is_request way else is_open past b) ≡ true
          → (d : End) × Met r n g is d × (at r n g is d ≡ b)
      of_only b true t up = (e, met, same_is (at r n g is e) b t)
      of_only b false t up = follows.only b up

      of_met : (d : End) (t : Bool) → same_end e d ≡ t → (if t then is_request way else is_open own d) ≡ true → Met r n g is d
      of_met d true t up = subst (λ (x : End). Met r n g is x) (same_is e d t) met
      of_met d false t up = follows.met d up

  module _ (own past : List Pass) (follows : Follows own past) where
    -- some handshake of an import, or of the result, is open in both or in neither
    result_up : some_open (count r.outcome) (of_result (is_open past)) ≡ true → some_open (count g.plan.outcome) (of_result (is_open own)) ≡ true
    result_up busy =
        let (m, low, up) = some_there (count r.outcome) (of_result (is_open past)) busy in
        let (e, met, lies) = follows.only (ResultEnd m) up in
        let (h, sum, is_e) = result_of e m lies in
        let met_h = subst (λ (x : End). Met r n g is x) is_e met in
        let port = met_port r n g is (ResultEnd h) met_h in
        there_some (count g.plan.outcome) (of_result (is_open own)) h (port_result r n g is h port)
        (follows.same (ResultEnd h) port ∙ (ap (λ (x : ℕ). is_open past (ResultEnd x)) sum ∙ up))

    result_down : some_open (count g.plan.outcome) (of_result (is_open own)) ≡ true → some_open (count r.outcome) (of_result (is_open past)) ≡ true
    result_down busy =
        let (h, low, up) = some_there (count g.plan.outcome) (of_result (is_open own)) busy in
        there_some (count r.outcome) (of_result (is_open past)) (n + h) (is.part.fits h low)
        (sym (follows.same (ResultEnd h) (result_port h low)) ∙ up)

    import_same : (i : ℕ) (x : Imported) → slice_get g.plan.imports i ≡ Some x → (h : ℕ) → h < count x.ty
        → is_open own (ImportEnd i h) ≡ is_open past (ImportEnd (import_number r n g is i) h)
    import_same i x here h low = follows.same (ImportEnd i h) (import_port i h x here low)

    pub side_turned : Turned r past → Turned g.plan own
    side_turned turned = of_each g.plan own imports result
      where
        each : ((i : ℕ) (x : Imported) → slice_get r.imports i ≡ Some x → ImportKeeps (is_open past) i x r.outcome) × KeepsTurnsOf r.outcome (of_result (is_open past))
        each = each_of r past turned

        result : KeepsTurnsOf g.plan.outcome (of_result (is_open own))
        result =
            turns_agree g.plan.outcome (beyond n (of_result (is_open past))) (of_result (is_open own))
            (λ h low. sym (follows.same (ResultEnd h) (result_port h low))) (is.part.kept (of_result (is_open past)) each.1)

        imports : (i : ℕ) (x : Imported) → slice_get g.plan.imports i ≡ Some x → ImportKeeps (is_open own) i x g.plan.outcome
        imports i x here = (
          turns_agree x.ty (of_import (is_open past) (import_number r n g is i)) (of_import (is_open own) i) (λ h low. sym (import_same i x here h low)) whole.0,
          λ busy.
              (let (h, low, up) = some_there (count x.ty) (of_import (is_open own) i) busy in
              result_up
              (whole.1
              (there_some (count x.ty) (of_import (is_open past) (import_number r n g is i)) h low (sym (import_same i x here h low) ∙ up)))),
        )
          where
            whole : ImportKeeps (is_open past) (import_number r n g is i) x r.outcome
            whole = each.0 (import_number r n g is i) x (import_there r n g is i x here)

    pub whole_turned : Turned g.plan own → Turned r past
    whole_turned turned = of_each r past imports result
      where
        each : ((i : ℕ) (x : Imported) → slice_get g.plan.imports i ≡ Some x → ImportKeeps (is_open own) i x g.plan.outcome) × KeepsTurnsOf g.plan.outcome (of_result (is_open own))
        each = each_of g.plan own turned

        closed : (m : ℕ) → m < count r.outcome → ((h : ℕ) → h < count g.plan.outcome → n + h ≡ m → ⊥) → is_open past (ResultEnd m) ≡ false
        closed m low apart = by_test (is_open past (ResultEnd m)) refl
          where
            by_test : (b : Bool) → is_open past (ResultEnd m) ≡ b → b ≡ false
            by_test false t = refl
            by_test true up =
                let (e, met, lies) = follows.only (ResultEnd m) up in
                let (h, sum, is_e) = result_of e m lies in
                let met_h = subst (λ (x : End). Met r n g is x) is_e met in
                absurd (apart h (port_result r n g is h (met_port r n g is (ResultEnd h) met_h)) sum)

        result : KeepsTurnsOf r.outcome (of_result (is_open past))
        result =
            is.part.back (of_result (is_open past))
            (turns_agree g.plan.outcome (of_result (is_open own)) (beyond n (of_result (is_open past))) (λ h low. follows.same (ResultEnd h) (result_port h low)) each.1)
            closed

        -- an import of the whole of which something is open
        busy_import : (k : ℕ) (x : Imported) → slice_get r.imports k ≡ Some x → some_open (count x.ty) (of_import (is_open past) k) ≡ true
            → (i : ℕ) × (import_number r n g is i ≡ k) × (slice_get g.plan.imports i ≡ Some x)
        busy_import k x here busy =
            let (h, low, up) = some_there (count x.ty) (of_import (is_open past) k) busy in
            let (e, met, lies) = follows.only (ImportEnd k h) up in
            let (i, number, is_e) = import_of e k h lies in
            let met_i = subst (λ (z : End). Met r n g is z) is_e met in
            let (y, own_here) = port_import r n g is i h (met_port r n g is (ImportEnd i h) met_i) in
            let one : Some y ≡ Some x = sym (import_there r n g is i y own_here) ∙ (ap (slice_get r.imports) number ∙ here) in
            (i, number, own_here ∙ one)

        import_agrees : (k : ℕ) (x : Imported) (i : ℕ) → import_number r n g is i ≡ k → slice_get g.plan.imports i ≡ Some x → (h : ℕ) → h < count x.ty
            → is_open own (ImportEnd i h) ≡ is_open past (ImportEnd k h)
        import_agrees k x i number here h low = import_same i x here h low ∙ ap (λ (y : ℕ). is_open past (ImportEnd y h)) number

        imports : (k : ℕ) (x : Imported) → slice_get r.imports k ≡ Some x → ImportKeeps (is_open past) k x r.outcome
        imports k x here = (by_test (some_open (count x.ty) (of_import (is_open past) k)) refl, led)
          where
            shut : some_open (count x.ty) (of_import (is_open past) k) ≡ false → (h : ℕ) → h < count x.ty → is_open past (ImportEnd k h) ≡ false
            shut none h low = by_open (is_open past (ImportEnd k h)) refl
              where
                by_open : (b : Bool) → is_open past (ImportEnd k h) ≡ b → b ≡ false
                by_open false t = refl
                by_open true t = sym (there_some (count x.ty) (of_import (is_open past) k) h low t) ∙ none

            by_test : (b : Bool) → some_open (count x.ty) (of_import (is_open past) k) ≡ b → KeepsTurnsOf x.ty (of_import (is_open past) k)
            by_test false none = closed_kept x.ty (of_import (is_open past) k) (shut none)
            by_test true busy =
                let (i, number, own_here) = busy_import k x here busy in
                turns_agree x.ty (of_import (is_open own) i) (of_import (is_open past) k) (import_agrees k x i number own_here) (each.0 i x own_here).0

            led : IsTrue (some_open (count x.ty) (of_import (is_open past) k)) → IsTrue (some_open (count r.outcome) (of_result (is_open past)))
            led busy =
                let (i, number, own_here) = busy_import k x here busy in
                let (h, low, up) = some_there (count x.ty) (of_import (is_open past) k) busy in
                result_down
                ((each.0 i x own_here).1
                (there_some (count x.ty) (of_import (is_open own) i) h low (import_agrees k x i number own_here h low ∙ up)))

    -- an input or an output comes in turn in both
    pub comes_as : (e : End) → Port r n g is e → (way : Direction) → ComesInTurn past (at r n g is e) way → ComesInTurn own e way
    comes_as e port Request turn = follows.same e port ∙ turn
    comes_as e port Answer turn = follows.same e port ∙ turn

    pub goes_as : (e : End) → Port r n g is e → (way : Direction) → ComesInTurn own e way → ComesInTurn past (at r n g is e) way
    goes_as e port Request turn = sym (follows.same e port) ∙ turn
    goes_as e port Answer turn = sym (follows.same e port) ∙ turn

    -- where the result is closed all is
    pub all_shut : Turned g.plan own → ((h : ℕ) → h < count g.plan.outcome → is_open own (ResultEnd h) ≡ false) → (e : End) → is_open own e ≡ false
    all_shut turned shut e = by_test e (is_open own e) refl
      where
        never : (e : End) → Port r n g is e → is_open own e ≡ true → ⊥
        never (PartEnd i h) port up = port.port
        never (ResultEnd h) port up = true_is_not_false (is_open own (ResultEnd h)) up (shut h (port_result r n g is h port))
        never (ImportEnd i h) port up =
            let (x, here) = port_import r n g is i h port in
            let low : h < count x.ty = slice_get_within (contacts_of x.ty) h port.contact (sym (ap (λ (o : Option Imported). slice_get (contacts_of_import o) h) here) ∙ port.there) in
            let busy = ((each_of g.plan own turned).0 i x here).1 (there_some (count x.ty) (of_import (is_open own) i) h low up) in
            let (m, small, open_m) = some_there (count g.plan.outcome) (of_result (is_open own)) busy in
            true_is_not_false (is_open own (ResultEnd m)) open_m (shut m small)

        by_test : (e : End) (b : Bool) → is_open own e ≡ b → b ≡ false
        by_test e false t = refl
        by_test e true up = absurd (never e (met_port r n g is e (follows.met e up)) up)

    -- An input of the whole is one of the side, or a request at the result beside it.
    abbrev pub IsBeside : End → Type 0
    IsBeside b = (m : ℕ) × (b ≡ ResultEnd m) × (m < count r.outcome) × (way_in (contact_at r b) ≡ Request) × ((h : ℕ) → h < count g.plan.outcome → n + h ≡ m → ⊥)

    pub where_in : (b : End) (v : ℕ) (s t : Tokens) → Does r (In b v) s t → KeepsTurns r past (pass b (way_in (contact_at r b)))
        → ((e : End) × Met r n g is e × (at r n g is e ≡ b)) ⊎ IsBeside b
    where_in b v s t does turn = let (c, there) = in_there r b v s t does in at_end b does.0 c there turn
      where
        at_import : (k h : ℕ) (c : Contact) → contact_at r (ImportEnd k h) ≡ Some c → KeepsTurns r past (pass (ImportEnd k h) (way_in (contact_at r (ImportEnd k h))))
            → (e : End) × Met r n g is e × (at r n g is e ≡ ImportEnd k h)
        at_import k h c there turn =
            let (m, up, which) = open_before r past k h c there turn in
            let (e, met, lies) = follows.only (ImportEnd k m) up in
            let (i, number, is_e) = import_of e k m lies in
            let met_i = subst (λ (x : End). Met r n g is x) is_e met in of_which m i number met_i which
          where
            of_which : (m i : ℕ) → import_number r n g is i ≡ k → Met r n g is (ImportEnd i m) → (m ≡ h) ⊎ (c.role ≡ Ask)
                → (e : End) × Met r n g is e × (at r n g is e ≡ ImportEnd k h)
            of_which m i number met (inl same) =
                (ImportEnd i h, subst (λ (x : ℕ). Met r n g is (ImportEnd i x)) same met, ap (λ (x : ℕ). ImportEnd x h) number)
            of_which m i number met (inr asks) =
                let (x, here) = port_import r n g is i m (met_port r n g is (ImportEnd i m) met) in
                let at_own : contact_at g.plan (ImportEnd i h) ≡ Some c =
                ap (λ (o : Option Imported). slice_get (contacts_of_import o) h) (here ∙ (sym (import_there r n g is i x here) ∙ ap (slice_get r.imports) number)) ∙ there in
                let port : Port r n g is (ImportEnd i h) = record { port = tt; contact = c; there = at_own } in
                (ImportEnd i h, import_met r n g is i h port asks (met_used r n g is (ImportEnd i m) met), ap (λ (x : ℕ). ImportEnd x h) number)

        at_result : (m : ℕ) (c : Contact) → contact_at r (ResultEnd m) ≡ Some c → KeepsTurns r past (pass (ResultEnd m) (way_in (contact_at r (ResultEnd m))))
            → (role : Role) → c.role ≡ role → ((e : End) × Met r n g is e × (at r n g is e ≡ ResultEnd m)) ⊎ IsBeside (ResultEnd m)
        at_result m c there turn Serve serves =
            inl (follows.only (ResultEnd m) (subst (ComesInTurn past (ResultEnd m)) (ap way_in there ∙ ap way_put serves) turn.0))
        at_result m c there turn Ask asks = of_range (in_range n (count g.plan.outcome) m)
          where
            of_range : ((h : ℕ) × (h < count g.plan.outcome) × (n + h ≡ m)) ⊎ ((h : ℕ) → h < count g.plan.outcome → n + h ≡ m → ⊥)
                → ((e : End) × Met r n g is e × (at r n g is e ≡ ResultEnd m)) ⊎ IsBeside (ResultEnd m)
            of_range (inr apart) = inr (m, refl, below_count r.outcome m c there, ap way_in there ∙ ap way_put asks, apart)
            of_range (inl (h, low, sum)) =
                let port = result_port h low in
                let lies : ResultEnd (n + h) ≡ ResultEnd m = ap ResultEnd sum in
                let one : Some port.contact ≡ Some c = sym port.there ∙ (sym (same_contact r n g is (ResultEnd h) port) ∙ (ap (contact_at r) lies ∙ there)) in
                let role : port.contact.role ≡ Ask = (let same : port.contact ≡ c = cc one in ap (λ (x : Contact). x.role) same ∙ asks) in
                inl (ResultEnd h, result_met r n g is h port role, lies)

        at_end : (b : End) → IsPortEnd b → (c : Contact) → contact_at r b ≡ Some c → KeepsTurns r past (pass b (way_in (contact_at r b)))
            → ((e : End) × Met r n g is e × (at r n g is e ≡ b)) ⊎ IsBeside b
        at_end (PartEnd i h) port c there turn = absurd port
        at_end (ImportEnd k h) port c there turn = inl (at_import k h c there turn)
        at_end (ResultEnd m) port c there turn = at_result m c there turn c.role refl

  pub follows_none : (past : List Pass) → ((e : End) → is_open past e ≡ false) → Follows [] past
  follows_none past shut =
      record {
        same = λ e port. sym (shut (at r n g is e));
        only = λ b up. absurd (true_is_not_false (is_open past b) up (shut b));
        met = λ e up. absurd (cc up);
      }
