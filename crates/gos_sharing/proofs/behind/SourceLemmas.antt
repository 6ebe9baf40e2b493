-- Before the Share has taken a token of its caller, what is joined to its source does nothing that is seen.
use Rattle.std.specs.Prelude.{◌≡◌, ◌≢◌, ℕ, zero, suc, ◌+◌, ◌-◌, ◌*◌, ◌<◌, Bool, true, false, List, [], ◌∷◌, ◌⊎◌, Option, Some, None, slice_get, nat_eq, if◌then◌else◌}
use Rattle.std.proofs.Common.{refl, sym, ◌∙◌, ap, subst, arith, inl, inr}
use Rattle.std.proofs.lemmas.Option.{slice_get_within, same_Some}
use Rattle.gos_types.specs.declared.shakes.Role.{Role}
use Rattle.gos_types.specs.declared.shakes.Role.TheVariants.{Serve, Ask}
use Rattle.gos_types.specs.Types.{Type'}
use Rattle.gos_types.specs.Handshakes.{turned}
use Rattle.gos_types.specs.Events.{Direction, Request, Answer}
use Rattle.gos_model.specs.Typing.{Imported}
use Rattle.gos_plan.specs.Kinds.{Share, Contact, contacts_of, part_contacts}
use Rattle.gos_plan.specs.Firing.{State, Slot, Token, Row, shared_rows, firing}
use Rattle.gos_plan.specs.Plans.{End, PartEnd, ImportEnd, ResultEnd, Plan, contact_at, contacts_of_part, contacts_of_import}
use Rattle.gos_plan.specs.Tokens.{Tokens, Element, Fire, Out, In, IsPortEnd, Passes, places_of, token_at, with_token, with_state, with_puts, end_of, way_of, shake_of, way_taken, way_put, firing_of, fired, Does, Runs, IsIdle}
use Rattle.gos_plan.specs.Orderly.{Open, none_open}
use Rattle.gos_plan.proofs.JointLemmas.{joined}
use Rattle.gos_plan.proofs.HeldLemmas.{nothing_there}
use Rattle.gos_plan.proofs.RowLemmas.{EachRow, role_taking}
use Rattle.gos_plan.proofs.AskingLemmas.{RoleIs, row_roles}
use Rattle.gos_plan.proofs.ShareTableLemmas.{share_row}
use Rattle.gos_plan.proofs.TurnLemmas.{fired_state, token_state, way_to_take}
use Rattle.gos_plan.proofs.ContactLemmas.{turned_of}
use Rattle.gos_plan.proofs.ElementLemmas.{firing_part}
use Rattle.gos_realises.specs.realises.Regular.{count, Pass, pass, way_in, way_out, is_open, is_request, KeepsTurnsOf, KeepsTurns, InputsKeepTurns, IsRegular}
use Rattle.gos_realises.specs.realises.Realises.{AllGround}
use Rattle.gos_realises.proofs.realises.RingLemmas.{after}
use Rattle.gos_realises.proofs.realises.InputLemmas.{InputTurns, first_turn, later_turns, in_there, out_there, import_serves, one_ground}
use Rattle.gos_realises.proofs.realises.GroundTurnLemmas.{some_there, there_some}
use Rattle.gos_realises.proofs.realises.CountLemmas.{share_count}
use Rattle.gos_realises.proofs.realises.PassLemmas.{open_itself, open_otherwise}
use Rattle.gos_joining.proofs.renumbered.TurnLemmas.{EachKeeps, of_import, of_result}
use Rattle.gos_joining.specs.webs.Cutting.{Cut, StandsIn, cut_tokens, out_if}
use Rattle.gos_joining.proofs.webs.CutLemmas.{name_of, outside_name, port_outside, token_lost, state_lost, fire_cut, taken_out}
use Rattle.gos_joining.proofs.webs.IdleLemmas.{idle_is_cut}
use Rattle.gos_sharing.specs.sharing.Sharing.{source_end, caller_end, IsForCaller}
use Rattle.gos_sharing.proofs.buffers.GroundLemmas.{next_rests}
use Rattle.gos_sharing.proofs.buffers.BranchLemmas.{one_of_two, place_stands}
use Rattle.gos_sharing.specs.behind.Behind.{IsBehind}
use Rattle.gos_sharing.specs.behind.Source.{IsBefore, HasItsImports, SourcesAreLoyal, GroundSourcesAreLoyal, BehindIsLoyal}
use Rattle.gos_sharing.proofs.behind.BetweenLemmas.{ServedOpen, positive}
use Rattle.gos_sharing.proofs.behind.EndLemmas.{Owned, asker, server, share, not_share}
use Rattle.gos_sharing.proofs.behind.LyingLemmas.{lying, share_outside, is_cut, From, of_inner, of_asker, of_server, from_joint}
use Rattle.gos_sharing.proofs.behind.StepLemmas.{RegularFrom, stepped, from_idle}
use Rattle.gos_sharing.proofs.behind.LagLemmas.{told_end, ports_of_turns, served_there}

-- where a Share takes a token: at its source, or at a caller
abbrev Located : ℕ → Row → Type 0
Located n r = (shake_of r.takes < n) ⊎ ((b : ℕ) × (j : ℕ) × (j < n) × (shake_of r.takes ≡ n + b * n + j))

of_role : (n j b : ℕ) (role : Role) → j < n → EachRow (Located n) (shared_rows role n j b)
of_role n j b Serve low = (inr (0, j, low, omega arith), (inr (1, j, low, omega arith), (inl low, tt)))
of_role n j b Ask low = (inl low, (inr (b, j, low, refl), tt))

located : (t : Type') (q : State) (slot : Slot) (r : Row) → firing (Share t) q slot ≡ Some r → (r.takes ≡ slot) × Located (count t) r
located t q slot r fires =
    share_row (Located (count t)) t q slot r (λ j c at. of_role (count t) j q.number c.role (slice_get_within (contacts_of t) j c at)) fires

beyond_callers : (n b j : ℕ) → n + suc (suc b) * n + j < n + (n + n) → ⊥
beyond_callers n b j low = omega (arith, low)

-- A regular plan that nothing came to puts nothing out.
asks_back : (role : Role) → way_taken (turned role) ≡ Request → role ≡ Ask
asks_back Serve e = absurd (cc e)
asks_back Ask e = refl

module _ (p : Plan) (o : Open) (s : Tokens) (going : RegularFrom p [] o s) where
  no_result : (j : ℕ) (d : Contact) → slice_get (contacts_of p.outcome) j ≡ Some d → d.role ≡ Ask → KeepsTurns p [] (pass (ResultEnd j) Request) → ⊥
  no_result j d at_d role keeps = of_served (served_there p.imports p.outcome (is_open (pass (ResultEnd j) Request ∷ [])) (ports_of_turns p p.imports p.outcome refl refl [] (pass (ResultEnd j) Request) keeps) j d at_d (open_itself (ResultEnd j) Request []))
    where
      of_served : ServedOpen p.outcome (of_result (is_open (pass (ResultEnd j) Request ∷ []))) → ⊥
      of_served (l, k, at_l, serves, up) = elim (told_end (ResultEnd j) (ResultEnd l)) [
        | inl same ↦
            (let number : j ≡ l = cc same in
            let one : d ≡ k = same_Some d k (sym at_d ∙ (ap (slice_get (contacts_of p.outcome)) number ∙ at_l)) in
            let clash : Ask ≡ Serve = sym role ∙ (ap (λ (y : Contact). y.role) one ∙ serves) in cc clash)
        | inr apart ↦ (let clash : false ≡ true = sym (open_otherwise (ResultEnd j) (ResultEnd l) Request [] apart) ∙ up in cc clash)
      ]

  no_import : (n h : ℕ) (k : Contact) → contact_at p (ImportEnd n h) ≡ Some k → KeepsTurns p [] (pass (ImportEnd n h) Request) → ⊥
  no_import n h k at_k keeps = of_import_there (slice_get p.imports n) refl at_k
    where
      each : EachKeeps 0 p.imports p.outcome (is_open (pass (ImportEnd n h) Request ∷ []))
      each = ports_of_turns p p.imports p.outcome refl refl [] (pass (ImportEnd n h) Request) keeps

      of_import_there : (y : Option Imported) → slice_get p.imports n ≡ y → slice_get (contacts_of_import y) h ≡ Some k → ⊥
      of_import_there None none there = cc there
      of_import_there (Some x) at_n there =
          let zeros : n ≡ 0 + n = omega arith in
          let up : is_open (pass (ImportEnd n h) Request ∷ []) (ImportEnd (0 + n) h) ≡ true = ap (λ (m : ℕ). is_open (pass (ImportEnd n h) Request ∷ []) (ImportEnd m h)) (sym zeros) ∙ open_itself (ImportEnd n h) Request [] in
          let busy = there_some (count x.ty) (of_import (is_open (pass (ImportEnd n h) Request ∷ [])) (0 + n)) h (slice_get_within (contacts_of x.ty) h k there) up in
          let (l, low, also) = some_there (count p.outcome) (of_result (is_open (pass (ImportEnd n h) Request ∷ []))) ((each.0 n x at_n).1 busy) in
          let clash : false ≡ true = sym (open_otherwise (ImportEnd n h) (ResultEnd l) Request [] (λ e. cc e)) ∙ also in cc clash

  silent : (e : End) (v : ℕ) (w : Tokens) → Does p (Out e v) s w → ⊥
  silent e v w does = of_contact (out_there p e v s w does)
    where
      keeps : KeepsTurns p [] (pass e (way_out (contact_at p e)))
      keeps = (stepped p [] o s (Out e v) w going does tt).turns

      at_end : (e : End) (k : Contact) → IsPortEnd e → contact_at p e ≡ Some k → (way : Direction) → way_taken k.role ≡ way → KeepsTurns p [] (pass e way) → ⊥
      at_end (PartEnd n h) k port there way is turns = port
      at_end (ImportEnd n h) k port there Request is turns = no_import n h k there turns
      at_end (ImportEnd n h) k port there Answer is turns = let clash : false ≡ true = turns.0 in cc clash
      at_end (ResultEnd j) k port there Answer is turns = let clash : false ≡ true = turns.0 in cc clash
      at_end (ResultEnd j) k port there Request is turns =
          let (d, at_d, same) = turned_of (slice_get (contacts_of p.outcome) j) k there in
          no_result j d at_d (asks_back d.role (ap (λ (y : Contact). way_taken y.role) (sym same) ∙ is)) turns

      of_contact : (k : Contact) × (contact_at p e ≡ Some k) → ⊥
      of_contact (k, there) = at_end e k does.0 there (way_taken k.role) refl (subst (λ (y : Option Contact). KeepsTurns p [] (pass e (way_out y))) there keeps)

-- what is open at an import
abbrev of_import_ends : List Pass → ℕ → ℕ → Bool
of_import_ends past m g = is_open past (ImportEnd m g)

module _ (f : Cut) (i : ℕ) (t : Type') (c : ℕ) (r p : Plan) (is : IsBefore f i t c r p) (has : HasItsImports f r p) where
  abbrev within : Tokens → Tokens
  within = cut_tokens f p

  -- nothing came to the region, and nothing is open at its imports
  record Asleep (past : List Pass) (s : Tokens) : Type 0 where
    opened : Open
    going : RegularFrom p [] opened (within s)
    closed : (n h : ℕ) → StandsIn p (ImportEnd n h) → is_open past (f.outer (ImportEnd n h)) ≡ false

  abbrev Wakes : List Pass → Tokens → Type 0
  Wakes past s = ((s.state i).number ≡ c) ⊎ Asleep past s

  -- the Share takes of its source, or of its one caller
  row_of : (slot : Slot) (s w : Tokens) → Does r (Fire i slot) s w → (row : Row) × (v : ℕ) × (firing (Share t) (s.state i) slot ≡ Some row) × (w ≡ fired r i row v s)
  row_of slot s w (v, row, lies, by, leads) = (row, v, ap (λ y. firing_of y (s.state i) slot) (sym is.share) ∙ by, leads)

  for_one : (slot : Slot) (s w : Tokens) → Does r (Fire i slot) s w → (shake_of slot < count t) ⊎ IsForCaller t c (s.state i).number (shake_of slot)
  for_one slot s w does = by_place (places_of r (end_of i slot)) refl
    where
      at_caller : (a : End) → places_of r (PartEnd i (shake_of slot)) ≡ Some a → (b j : ℕ) → j < count t → shake_of slot ≡ count t + b * count t + j
          → IsForCaller t c (s.state i).number (shake_of slot)
      at_caller a named b j low e = by_two b e
        where
          there : slice_get (part_contacts (Share t)) (shake_of slot) ≡ Some (joined r (PartEnd i (shake_of slot)) a is.cut.whole_right named).here
          there =
              ap (λ y. slice_get (contacts_of_part y) (shake_of slot)) (sym is.share)
              ∙ (joined r (PartEnd i (shake_of slot)) a is.cut.whole_right named).is_here

          small : shake_of slot < count t + (count t + count t)
          small = let bound = slice_get_within (part_contacts (Share t)) (shake_of slot) (joined r (PartEnd i (shake_of slot)) a is.cut.whole_right named).here there in let size = share_count t in omega (arith, bound, size)

          of_either : (b : ℕ) → shake_of slot ≡ count t + b * count t + j → (b ≡ c) ⊎ (b ≡ 1 - c) → IsForCaller t c (s.state i).number (shake_of slot)
          of_either b same (inl own) =
              let here : shake_of slot ≡ count t + c * count t + j = same ∙ ap (λ y. count t + y * count t + j) own in inl (omega (arith, here), omega (arith, here, low))
          of_either b same (inr other) =
              let here : shake_of slot ≡ count t + (1 - c) * count t + j = same ∙ ap (λ y. count t + y * count t + j) other in
              absurd (is.alone j low (subst (λ (n : ℕ). StandsIn r (PartEnd i n)) here (place_stands r (PartEnd i (shake_of slot)) a named)))

          by_two : (b : ℕ) → shake_of slot ≡ count t + b * count t + j → IsForCaller t c (s.state i).number (shake_of slot)
          by_two zero same = of_either 0 same (one_of_two c 0 is.caller (omega arith))
          by_two (suc zero) same = of_either 1 same (one_of_two c 1 is.caller (omega arith))
          by_two (suc (suc b)) same = absurd (beyond_callers (count t) b j (subst (λ (n : ℕ). n < count t + (count t + count t)) same small))

      by_place : (o : Option End) → places_of r (end_of i slot) ≡ o → (shake_of slot < count t) ⊎ IsForCaller t c (s.state i).number (shake_of slot)
      by_place None none = absurd (nothing_there r (end_of i slot) (way_of slot) does.0 s does.2 none)
      by_place (Some a) named =
          let (row, v, fires, leads) = row_of slot s w does in
          let (takes, place) = located t (s.state i) slot row fires in
          elim place [
            | inl low ↦ inl (subst (λ (y : Slot). shake_of y < count t) takes low)
            | inr (b, j, low, e) ↦ inr (at_caller a named b j low (ap shake_of (sym takes) ∙ e))
          ]

  comes_to : (slot : Slot) (s w : Tokens) → Does r (Fire i slot) s w → IsForCaller t c (s.state i).number (shake_of slot) → (w.state i).number ≡ c
  comes_to slot s w does for =
      let (row, v, fires, leads) = row_of slot s w does in
      let test : nat_eq i i ≡ true = grind arith in
      ap (λ (y : Tokens). (y.state i).number) leads
      ∙ (ap (λ (q : State). q.number) (fired_state r i row v s i)
      ∙ (ap (λ (b : Bool). (if b then row.next v else s.state i).number) test ∙ ap (λ (q : State). q.number) (next_rests t c is.caller (s.state i) slot row v fires for)))

  -- while the region sleeps nothing is taken of it
  source_still : (past : List Pass) (s w : Tokens) → Asleep past s → (slot : Slot) → shake_of slot < count t → Does r (Fire i slot) s w → ⊥
  source_still past s w asleep slot low does = by_place (places_of r (end_of i slot)) refl
    where
      h : ℕ
      h = shake_of slot

      ways : (d : Contact) → contact_at r (end_of i slot) ≡ Some d → way_of slot ≡ way_taken d.role
      ways d at_d =
          let (row, v, fires, leads) = row_of slot s w does in
          let roles = row_roles (Share t) (s.state i) slot row v fires in
          let role = subst (λ (y : Slot). RoleIs (Share t) (shake_of y) (role_taking y)) roles.0 roles.1.0 in
          way_to_take slot ∙ ap way_taken (sym (role d (ap (λ y. slice_get (contacts_of_part y) (shake_of slot)) (sym is.share) ∙ at_d)))

      by_place : (o : Option End) → places_of r (end_of i slot) ≡ o → ⊥
      by_place None none = nothing_there r (end_of i slot) (way_of slot) does.0 s does.2 none
      by_place (Some a) named =
          let stood = is.joined h low (place_stands r (PartEnd i h) a named) in
          let port = is.cut.ports (ResultEnd h) tt stood in
          let leads_out : f.inner (source_end i h) ≡ Some (ResultEnd h) = ap f.inner (sym (is.source h stood)) ∙ port.1 in
          let runs = taken_out f r p is.cut (source_end i h) (outside_name f (source_end i h) is.outside) (way_of slot) does.0 s ways does.2 in
          let out = subst (λ (o : Option End). Runs p (out_if o does.0) (within s) (within (with_token r (source_end i h) (way_of slot) None s))) leads_out runs in
          silent p asleep.opened (within s) asleep.going (ResultEnd h) does.0 out.0 out.1

  -- other parts don't touch it
  not_inner : (n h : ℕ) → n ≢ i → f.inner (PartEnd n h) ≡ None
  not_inner n h apart = by_value (f.inner (PartEnd n h)) refl
    where
      of_port : (e : End) → IsPortEnd e → StandsIn p e → f.outer e ≡ PartEnd n h → ⊥
      of_port (PartEnd m g) port stood at_e = port
      of_port (ImportEnd m g) port stood at_e =
          let (k, l, at_k) = is.ports m g stood in let clash : ImportEnd k l ≡ PartEnd n h = sym at_k ∙ at_e in cc clash
      of_port (ResultEnd j) port stood at_e =
          let same : PartEnd i j ≡ PartEnd n h = sym (is.source j stood) ∙ at_e in let number : i ≡ n = cc same in apart (sym number)

      by_value : (o : Option End) → f.inner (PartEnd n h) ≡ o → o ≡ None
      by_value None none = refl
      by_value (Some e) at_e = let (port, stood, at_p) = is.cut.inners (PartEnd n h) e at_e in absurd (of_port e port stood at_p)

  lost_at : (n h : ℕ) → n ≢ i → f.number n ≡ None → (way : Direction) (held : Option ℕ) (s : Tokens) → within (with_token r (PartEnd n h) way held s) ≡ within s
  lost_at n h apart out way held s = token_lost f r p is.cut (PartEnd n h) (outside_name f (PartEnd n h) out ∙ not_inner n h apart) way held s

  puts_lost : (n : ℕ) → n ≢ i → f.number n ≡ None → (ts : List Token) (s : Tokens) → within (with_puts r n ts s) ≡ within s
  puts_lost n apart out [] s = refl
  puts_lost n apart out (y ∷ ts) s =
      puts_lost n apart out ts (with_token r (end_of n y.slot) (way_of y.slot) (Some y.value) s) ∙ lost_at n (shake_of y.slot) apart out (way_of y.slot) (Some y.value) s

  part_lost : (n : ℕ) → n ≢ i → f.number n ≡ None → (slot : Slot) (s w : Tokens) → Does r (Fire n slot) s w → within w ≡ within s
  part_lost n apart out slot s w (v, row, lies, by, leads) =
      let (k, there) = firing_part (slice_get r.parts n) (s.state n) slot row by in
      ap within leads
      ∙ (puts_lost n apart out (row.puts v) (with_state n (row.next v) (with_token r (end_of n row.takes) (way_of row.takes) None s))
      ∙ (state_lost f r p is.cut n k out (row.next v) (with_token r (end_of n row.takes) (way_of row.takes) None s)
      ∙ lost_at n (shake_of row.takes) apart out (way_of row.takes) None s))

  -- What the whole asked at an import it asked along a joint.
  abbrev Asked : List Pass → Type 0
  Asked past =
      (m g : ℕ) (k : Contact) → contact_at r (ImportEnd m g) ≡ Some k → k.role ≡ Serve → is_open past (ImportEnd m g) ≡ true → StandsIn r (ImportEnd m g)

  asked_then : (past : List Pass) (s w : Tokens) (z : Element) → Asked past → Does r z s w → Asked (after r z past)
  asked_then past s w (Fire n slot) asked does m g k at_g serves up = asked m g k at_g serves up
  asked_then past s w (Out e v) asked does m g k at_g serves up = elim (told_end e (ImportEnd m g)) [
    | inl same ↦ of_contact same (out_there r e v s w does)
    | inr apart ↦ asked m g k at_g serves (sym (open_otherwise e (ImportEnd m g) (way_out (contact_at r e)) past apart) ∙ up)
  ]
    where
      of_contact : e ≡ ImportEnd m g → (d : Contact) × (contact_at r e ≡ Some d) → StandsIn r (ImportEnd m g)
      of_contact same (d, there) =
          let passes : (token_at r s e (way_taken d.role) ≡ Some v) × (w ≡ with_token r e (way_taken d.role) None s) =
          subst (λ (y : Option Contact). Passes r (Out e v) y s w) there does.1 in
          subst (StandsIn r) same (by_place passes.0 (places_of r e) refl)
        where
          by_place : token_at r s e (way_taken d.role) ≡ Some v → (o : Option End) → places_of r e ≡ o → StandsIn r e
          by_place lies None none = absurd (nothing_there r e (way_taken d.role) v s lies none)
          by_place lies (Some a) named = place_stands r e a named
  asked_then past s w (In e v) asked does m g k at_g serves up = elim (told_end e (ImportEnd m g)) [
    | inl same ↦
        (let ways : way_in (contact_at r e) ≡ Answer = ap way_in (ap (contact_at r) same ∙ at_g) ∙ ap way_put serves in
        let shut : is_open (pass e (way_in (contact_at r e)) ∷ past) (ImportEnd m g) ≡ false =
        ap (is_open (pass e (way_in (contact_at r e)) ∷ past)) (sym same) ∙ (open_itself e (way_in (contact_at r e)) past ∙ ap is_request ways) in
        let clash : true ≡ false = sym up ∙ shut in absurd (cc clash))
    | inr apart ↦ asked m g k at_g serves (sym (open_otherwise e (ImportEnd m g) (way_in (contact_at r e)) past apart) ∙ up)
  ]

  -- ports that are not the region's
  still_closed : (past : List Pass) (s : Tokens) → Asleep past s → (e : End) (way : Direction) → f.inner e ≡ None → (n h : ℕ) → StandsIn p (ImportEnd n h)
      → is_open (pass e way ∷ past) (f.outer (ImportEnd n h)) ≡ false
  still_closed past s asleep e way none n h stood =
      open_otherwise e (f.outer (ImportEnd n h)) way past
      (λ same. let clash : None ≡ Some (ImportEnd n h) = sym none ∙ (ap f.inner same ∙ (is.cut.ports (ImportEnd n h) tt stood).1) in cc clash)
      ∙ asleep.closed n h stood

  kept : (past : List Pass) (s w : Tokens) → Asleep past s → within w ≡ within s → (now : List Pass)
      → ((n h : ℕ) → StandsIn p (ImportEnd n h) → is_open now (f.outer (ImportEnd n h)) ≡ false) → Asleep now w
  kept past s w asleep same now closed =
      record { opened = asleep.opened; going = subst (λ (z : Tokens). RegularFrom p [] asleep.opened z) (sym same) asleep.going; closed = closed }

  port_way : (e : End) (k : Contact) → IsPortEnd e → contact_at r e ≡ Some k → name_of f e ≡ f.inner e
  port_way e k port there = port_outside f e port

  wakes_fire : (past : List Pass) (s w : Tokens) → Asleep past s → (n : ℕ) (slot : Slot) → Does r (Fire n slot) s w → Wakes past w
  wakes_fire past s w asleep n slot does = by_number (f.number n) refl
    where
      by_same : (b : Bool) → nat_eq n i ≡ b → f.number n ≡ None → Wakes past w
      by_same true test out =
          let same : n ≡ i = grind (arith, test) in
          let own = subst (λ (m : ℕ). Does r (Fire m slot) s w) same does in
          elim (for_one slot s w own) [
            | inl low ↦ absurd (source_still past s w asleep slot low own)
            | inr for ↦ inl (comes_to slot s w own for)
          ]
      by_same false test out =
          let apart : n ≢ i = (λ e. let t : nat_eq n i ≡ true = grind (arith, e) in let clash : true ≡ false = sym t ∙ test in cc clash) in
          inr (kept past s w asleep (part_lost n apart out slot s w does) past asleep.closed)

      by_number : (o : Option ℕ) → f.number n ≡ o → Wakes past w
      by_number None out = by_same (nat_eq n i) refl out
      by_number (Some m) inside =
          let st = stepped p [] asleep.opened (within s) (Fire m slot) (within w) asleep.going (fire_cut f r p is.cut m n inside slot s w does) tt in
          inr (record { opened = st.opened; going = st.further; closed = asleep.closed })

  wakes_out : (past : List Pass) (s w : Tokens) → Asleep past s → (e : End) (v : ℕ) → Does r (Out e v) s w → Asleep (after r (Out e v) past) w
  wakes_out past s w asleep e v does = of_contact (out_there r e v s w does)
    where
      of_contact : (k : Contact) × (contact_at r e ≡ Some k) → Asleep (after r (Out e v) past) w
      of_contact (k, there) = by_inner (f.inner e) refl
        where
          passes : (token_at r s e (way_taken k.role) ≡ Some v) × (w ≡ with_token r e (way_taken k.role) None s)
          passes = subst (λ (y : Option Contact). Passes r (Out e v) y s w) there does.1

          ways : (d : Contact) → contact_at r e ≡ Some d → way_taken k.role ≡ way_taken d.role
          ways d at_d = ap (λ (y : Contact). way_taken y.role) (same_Some k d (sym there ∙ at_d))

          by_inner : (o : Option End) → f.inner e ≡ o → Asleep (after r (Out e v) past) w
          by_inner None none =
              kept past s w asleep (ap within passes.1 ∙ token_lost f r p is.cut e (port_outside f e does.0 ∙ none) (way_taken k.role) None s) (pass e (way_out (contact_at r e)) ∷ past)
              (still_closed past s asleep e (way_out (contact_at r e)) none)
          by_inner (Some d) some =
              let runs = taken_out f r p is.cut e (port_outside f e does.0) (way_taken k.role) v s ways passes.0 in
              let out = subst (λ (o : Option End). Runs p (out_if o v) (within s) (within (with_token r e (way_taken k.role) None s))) some runs in
              absurd (silent p asleep.opened (within s) asleep.going d v out.0 out.1)

  wakes_in : (past : List Pass) (s w : Tokens) → Asked past → Asleep past s → (e : End) (v : ℕ) → Does r (In e v) s w → InputTurns r past (In e v) → Asleep (after r (In e v) past) w
  wakes_in past s w asked asleep e v does turn = of_contact (in_there r e v s w does)
    where
      of_contact : (k : Contact) × (contact_at r e ≡ Some k) → Asleep (after r (In e v) past) w
      of_contact (k, there) = by_inner (f.inner e) refl
        where
          leads : w ≡ with_token r e (way_put k.role) (Some v) s
          leads = (subst (λ (y : Option Contact). Passes r (In e v) y s w) there does.1).1

          -- an answer comes where it was asked, and where the surroundings ask the import is open elsewhere
          of_import : (n h m l : ℕ) → StandsIn p (ImportEnd n h) → f.outer (ImportEnd n h) ≡ ImportEnd m l → contact_at r (ImportEnd m l) ≡ Some k
              → KeepsTurns r past (pass (ImportEnd m l) (way_put k.role)) → ⊥
          of_import n h m l stood at_m at_l keeps = by_role k.role refl keeps
            where
              shut : is_open past (ImportEnd m l) ≡ false
              shut = ap (is_open past) (sym at_m) ∙ asleep.closed n h stood

              of_served : k.role ≡ Ask → (x : Imported) → slice_get r.imports m ≡ Some x → ServedOpen x.ty (of_import_ends (pass (ImportEnd m l) Request ∷ past) m) → ⊥
              of_served role x at_x (g, d, at_g, serves, up) =
                  let there_g : contact_at r (ImportEnd m g) ≡ Some d = ap (λ (o : Option Imported). slice_get (contacts_of_import o) g) at_x ∙ at_g in
                  let apart : ImportEnd m l ≡ ImportEnd m g → ⊥ =
                  (λ same. let one : k ≡ d = same_Some k d (sym at_l ∙ (ap (contact_at r) same ∙ there_g)) in
                  let clash : Ask ≡ Serve = sym role ∙ (ap (λ (y : Contact). y.role) one ∙ serves) in cc clash) in
                  let was : is_open past (ImportEnd m g) ≡ true = sym (open_otherwise (ImportEnd m l) (ImportEnd m g) Request past apart) ∙ up in
                  let (a, b, own, at_a) = has n h m l g k stood at_m at_l role (asked m g d there_g serves was) in
                  let closed : is_open past (ImportEnd m g) ≡ false = ap (is_open past) (sym at_a) ∙ asleep.closed a b own in
                  let clash : true ≡ false = sym was ∙ closed in cc clash

              of_slice : k.role ≡ Ask → KeepsTurns r past (pass (ImportEnd m l) Request) → (o : Option Imported) → slice_get r.imports m ≡ o
                  → slice_get (contacts_of_import o) l ≡ Some k → ⊥
              of_slice role turns None none at_none = cc at_none
              of_slice role turns (Some x) at_x at_k =
                  let zeros : 0 + m ≡ m = omega arith in
                  let all = ports_of_turns r r.imports r.outcome refl refl past (pass (ImportEnd m l) Request) turns in
                  let keeps_x : KeepsTurnsOf x.ty (of_import_ends (pass (ImportEnd m l) Request ∷ past) m) =
                  subst (λ (a : ℕ). KeepsTurnsOf x.ty (of_import_ends (pass (ImportEnd m l) Request ∷ past) a)) zeros (all.0 m x at_x).0 in
                  let busy = there_some (count x.ty) (of_import_ends (pass (ImportEnd m l) Request ∷ past) m) l (slice_get_within (contacts_of x.ty) l k at_k)
                  (open_itself (ImportEnd m l) Request past) in
                  of_served role x at_x (positive x.ty (of_import_ends (pass (ImportEnd m l) Request ∷ past) m) keeps_x busy)

              by_role : (role : Role) → k.role ≡ role → KeepsTurns r past (pass (ImportEnd m l) (way_put k.role)) → ⊥
              by_role Serve role turns =
                  let now = subst (λ (d : Direction). KeepsTurns r past (pass (ImportEnd m l) d)) (ap way_put role) turns in
                  let clash : true ≡ false = sym now.0 ∙ shut in cc clash
              by_role Ask role turns =
                  of_slice role (subst (λ (d : Direction). KeepsTurns r past (pass (ImportEnd m l) d)) (ap way_put role) turns) (slice_get r.imports m) refl at_l

          of_port : (d : End) → IsPortEnd d → StandsIn p d → f.outer d ≡ e → ⊥
          of_port (PartEnd n h) port stood at_e = port
          of_port (ResultEnd j) port stood at_e =
              subst IsPortEnd (sym at_e ∙ is.source j stood) does.0
          of_port (ImportEnd n h) port stood at_e =
              let (m, l, at_m) = is.ports n h stood in
              let same : e ≡ ImportEnd m l = sym at_e ∙ at_m in
              of_import n h m l stood at_m (ap (contact_at r) (sym same) ∙ there)
              (subst (λ (a : End). KeepsTurns r past (pass a (way_put k.role))) same (subst (λ (o : Option Contact). KeepsTurns r past (pass e (way_in o))) there turn))

          by_inner : (o : Option End) → f.inner e ≡ o → Asleep (after r (In e v) past) w
          by_inner None none =
              kept past s w asleep (ap within leads ∙ token_lost f r p is.cut e (port_outside f e does.0 ∙ none) (way_put k.role) (Some v) s) (pass e (way_in (contact_at r e)) ∷ past)
              (still_closed past s asleep e (way_in (contact_at r e)) none)
          by_inner (Some d) some = let (port, stood, at_e) = is.cut.inners e d some in absurd (of_port d port stood at_e)

  -- and once it has the branch of its caller it keeps it
  stays_out : (e : End) (v : ℕ) (s w : Tokens) → Does r (Out e v) s w → w.state i ≡ s.state i
  stays_out e v s w does = of_contact (out_there r e v s w does)
    where
      of_contact : (k : Contact) × (contact_at r e ≡ Some k) → w.state i ≡ s.state i
      of_contact (k, there) =
          let passes = subst (λ (y : Option Contact). Passes r (Out e v) y s w) there does.1 in
          ap (λ (z : Tokens). z.state i) passes.1 ∙ token_state r e (way_taken k.role) None s i

  stays_in : (e : End) (v : ℕ) (s w : Tokens) → Does r (In e v) s w → w.state i ≡ s.state i
  stays_in e v s w does = of_contact (in_there r e v s w does)
    where
      of_contact : (k : Contact) × (contact_at r e ≡ Some k) → w.state i ≡ s.state i
      of_contact (k, there) =
          let passes = subst (λ (y : Option Contact). Passes r (In e v) y s w) there does.1 in
          ap (λ (z : Tokens). z.state i) passes.1 ∙ token_state r e (way_put k.role) (Some v) s i

  stays_fire : (n : ℕ) (slot : Slot) (s w : Tokens) → (s.state i).number ≡ c → Does r (Fire n slot) s w → (w.state i).number ≡ c
  stays_fire n slot s w known does = by_same (nat_eq n i) refl
    where
      by_same : (b : Bool) → nat_eq n i ≡ b → (w.state i).number ≡ c
      by_same true test =
          let same : n ≡ i = grind (arith, test) in
          let own = subst (λ (m : ℕ). Does r (Fire m slot) s w) same does in
          comes_to slot s w own (elim (for_one slot s w own) [
            | inl low ↦ inr (low, known)
            | inr for ↦ for
          ])
      by_same false test =
          let apart : nat_eq i n ≡ false = grind (arith, test) in
          ap (λ (z : Tokens). (z.state i).number) does.4
          ∙ (ap (λ (q : State). q.number) (fired_state r n does.1 does.0 s i)
          ∙ (ap (λ (b : Bool). (if b then does.1.next does.0 else s.state i).number) apart ∙ known))

  wakes : (past : List Pass) (s w : Tokens) (z : Element) → Asked past → Wakes past s → Does r z s w → InputTurns r past z → Wakes (after r z past) w
  wakes past s w (Fire n slot) asked (inl known) does turn = inl (stays_fire n slot s w known does)
  wakes past s w (Out e v) asked (inl known) does turn = inl (ap (λ (q : State). q.number) (stays_out e v s w does) ∙ known)
  wakes past s w (In e v) asked (inl known) does turn = inl (ap (λ (q : State). q.number) (stays_in e v s w does) ∙ known)
  wakes past s w (Fire n slot) asked (inr asleep) does turn = wakes_fire past s w asleep n slot does
  wakes past s w (Out e v) asked (inr asleep) does turn = inr (wakes_out past s w asleep e v does)
  wakes past s w (In e v) asked (inr asleep) does turn = inr (wakes_in past s w asked asleep e v does turn)

  loyal_on : (xs : List Element) (past : List Pass) (s w u : Tokens) (slot : Slot) → Asked past → Wakes past s → Runs r xs s w → InputsKeepTurns r past xs → shake_of slot < count t
      → Does r (Fire i slot) w u → (w.state i).number ≡ c
  loyal_on [] past s w u slot asked (inl known) runs turns low does = ap (λ (z : Tokens). (z.state i).number) runs ∙ known
  loyal_on [] past s w u slot asked (inr asleep) runs turns low does = absurd (source_still past s u asleep slot low (subst (λ (z : Tokens). Does r (Fire i slot) z u) runs does))
  loyal_on (z ∷ zs) past s w u slot asked wake (v, first, runs) turns low does =
      loyal_on zs (after r z past) v w u slot (asked_then past s v z asked first) (wakes past s v z asked wake first (first_turn r past z zs turns)) runs (later_turns r past z zs turns) low does

  sleeps_first : (s : Tokens) → IsRegular p → IsIdle r s → Asleep [] s
  sleeps_first s regular idle =
      record { opened = none_open; going = from_idle p (within s) regular (idle_is_cut f r p s idle); closed = λ n h stood. refl }

pub sources_are_loyal : SourcesAreLoyal
sources_are_loyal f i t c r p is has regular xs slot s w u idle runs turns low does =
    loyal_on f i t c r p is has xs [] s w u slot (λ m g k at_g serves up. absurd (cc up)) (inr (sleeps_first f i t c r p is has s regular idle)) runs turns low does

-- ground imports serve
ground_serve : (f : Cut) (r p : Plan) → AllGround r.imports → HasItsImports f r p
ground_serve f r p ground n h m l g x stood at_m at_l role joined = of_slice (slice_get r.imports m) refl at_l
  where
    of_slice : (o : Option Imported) → slice_get r.imports m ≡ o → slice_get (contacts_of_import o) l ≡ Some x
        → (k : ℕ) × (j : ℕ) × StandsIn p (ImportEnd k j) × (f.outer (ImportEnd k j) ≡ ImportEnd m g)
    of_slice None none at_x = absurd (cc at_x)
    of_slice (Some y) at_y at_x =
        let serves = import_serves y.ty (one_ground r.imports ground m y at_y) l x at_x in
        let clash : Serve ≡ Ask = serves ∙ role in absurd (cc clash)

pub ground_sources_are_loyal : GroundSourcesAreLoyal
ground_sources_are_loyal f i t c r p is ground regular = sources_are_loyal f i t c r p is (ground_serve f r p ground) regular

-- a plan behind a Share
module _ (i : ℕ) (t : Type') (c : ℕ) (r p : Plan) (is : IsBehind i t c r p) where
  other_caller : (n d : ℕ) → d < 2 → (j l : ℕ) → j < n → l < n → n + (1 - d) * n + j ≡ n + d * n + l → ⊥
  other_caller n zero two j l low small e = omega (arith, low, small, e)
  other_caller n (suc zero) two j l low small e = omega (arith, low, small, e)
  other_caller n (suc (suc d)) two j l low small e = omega (arith, two)

  not_alone : (j : ℕ) → j < count t → StandsIn r (caller_end i t (1 - c) j) → ⊥
  not_alone j low (x, has, stood) = of_from (from_joint i t c r p is x (caller_end i t (1 - c) j) (Rattle.gos_plan.proofs.JointLemmas.contained r.joints x has) stood)
    where
      of_end : (d : End) → Owned t p d → caller_end i t (1 - c) j ≡ Rattle.gos_sharing.specs.buffers.Buffering.end_behind i d → ⊥
      of_end (PartEnd n h) own same = let number : i ≡ n = cc same in not_share i t c r p is.frame n own (sym number)
      of_end (ImportEnd n h) own same = cc same
      of_end (ResultEnd h) own same = let number : count t + (1 - c) * count t + j ≡ h = cc same in omega (arith, number, own)

      of_caller : (l : ℕ) (k : Contact) → slice_get (contacts_of t) l ≡ Some k → caller_end i t (1 - c) j ≡ caller_end i t c l → ⊥
      of_caller l k at_l same =
          let number : count t + (1 - c) * count t + j ≡ count t + c * count t + l = cc same in
          other_caller (count t) c is.frame.caller j l low (slice_get_within (contacts_of t) l k at_l) number

      of_asking : (l : ℕ) (k : Contact) → slice_get (contacts_of t) l ≡ Some k → (role : Role) → caller_end i t (1 - c) j ≡ asker i t c l role → ⊥
      of_asking l k at_l Serve same = cc same
      of_asking l k at_l Ask same = of_caller l k at_l same

      of_serving : (l : ℕ) (k : Contact) → slice_get (contacts_of t) l ≡ Some k → (role : Role) → caller_end i t (1 - c) j ≡ server i t c l role → ⊥
      of_serving l k at_l Serve same = of_caller l k at_l same
      of_serving l k at_l Ask same = cc same

      of_from : From i t c r p is (caller_end i t (1 - c) j) → ⊥
      of_from (of_inner d own stands_p same) = of_end d own same
      of_from (of_asker l k at_l same) = of_asking l k at_l k.role same
      of_from (of_server l k at_l same) = of_serving l k at_l k.role same

  source_joined : (j : ℕ) → j < count t → StandsIn r (source_end i j) → StandsIn p (ResultEnd j)
  source_joined j low (x, has, stood) = of_from (from_joint i t c r p is x (source_end i j) (Rattle.gos_plan.proofs.JointLemmas.contained r.joints x has) stood)
    where
      of_end : (d : End) → Owned t p d → StandsIn p d → source_end i j ≡ Rattle.gos_sharing.specs.buffers.Buffering.end_behind i d → StandsIn p (ResultEnd j)
      of_end (PartEnd n h) own stands_p same = let number : i ≡ n = cc same in absurd (not_share i t c r p is.frame n own (sym number))
      of_end (ImportEnd n h) own stands_p same = absurd (cc same)
      of_end (ResultEnd h) own stands_p same = let number : j ≡ h = cc same in subst (λ (n : ℕ). StandsIn p (ResultEnd n)) (sym number) stands_p

      of_caller : (l : ℕ) → source_end i j ≡ caller_end i t c l → StandsIn p (ResultEnd j)
      of_caller l same = let number : j ≡ count t + c * count t + l = cc same in absurd (omega (arith, number, low))

      of_asking : (l : ℕ) (role : Role) → source_end i j ≡ asker i t c l role → StandsIn p (ResultEnd j)
      of_asking l Serve same = absurd (cc same)
      of_asking l Ask same = of_caller l same

      of_serving : (l : ℕ) (role : Role) → source_end i j ≡ server i t c l role → StandsIn p (ResultEnd j)
      of_serving l Serve same = of_caller l same
      of_serving l Ask same = absurd (cc same)

      of_from : From i t c r p is (source_end i j) → StandsIn p (ResultEnd j)
      of_from (of_inner d own stands_p same) = of_end d own stands_p same
      of_from (of_asker l k at_l same) = of_asking l k.role same
      of_from (of_server l k at_l same) = of_serving l k.role same

  -- all of its imports are its own
  pub import_joined : (m g : ℕ) → StandsIn r (ImportEnd m g) → StandsIn p (ImportEnd m g)
  import_joined m g (x, inside, stood) = of_from (from_joint i t c r p is x (ImportEnd m g) (Rattle.gos_plan.proofs.JointLemmas.contained r.joints x inside) stood)
    where
      of_end : (d : End) → StandsIn p d → ImportEnd m g ≡ Rattle.gos_sharing.specs.buffers.Buffering.end_behind i d → StandsIn p (ImportEnd m g)
      of_end (PartEnd n h) stands_p same = absurd (cc same)
      of_end (ImportEnd n h) stands_p same = subst (StandsIn p) (sym same) stands_p
      of_end (ResultEnd h) stands_p same = absurd (cc same)

      not_asking : (l : ℕ) (role : Role) → ImportEnd m g ≡ asker i t c l role → ⊥
      not_asking l Serve same = cc same
      not_asking l Ask same = cc same

      not_serving : (l : ℕ) (role : Role) → ImportEnd m g ≡ server i t c l role → ⊥
      not_serving l Serve same = cc same
      not_serving l Ask same = cc same

      of_from : From i t c r p is (ImportEnd m g) → StandsIn p (ImportEnd m g)
      of_from (of_inner d own stands_p same) = of_end d stands_p same
      of_from (of_asker l k at_l same) = absurd (not_asking l k.role same)
      of_from (of_server l k at_l same) = absurd (not_serving l k.role same)

  pub has_imports : HasItsImports (lying i p) r p
  has_imports n h m l g x stood at_m at_l role joined = (m, g, import_joined m g joined, refl)

  pub before_it : IsBefore (lying i p) i t c r p
  before_it =
      record {
        cut = is_cut i t c r p is;
        share = share i t c r p is.frame;
        caller = is.frame.caller;
        outcome = is.frame.also_outcome;
        outside = share_outside i t c r p is;
        alone = not_alone;
        source = λ j stood. refl;
        joined = source_joined;
        ports = λ n h stood. (n, h, refl);
      }

pub behind_is_loyal : BehindIsLoyal
behind_is_loyal i t c r p is regular = sources_are_loyal (lying i p) i t c r p (before_it i t c r p is) (has_imports i t c r p is) regular
