-- A Share at one of its callers: the row of each token of that caller and of the source.
use Rattle.std.specs.Prelude.{◌≡◌, ℕ, ◌<◌, [], ◌∷◌, Some, slice_get}
use Rattle.std.proofs.Common.{refl, sym, ◌∙◌, ap, subst, arith, inl, inr}
use Rattle.std.proofs.lemmas.Option.{slice_get_within}
use Rattle.gos_types.specs.declared.shakes.Role.{Role}
use Rattle.gos_types.specs.declared.shakes.Role.TheVariants.{Serve, Ask}
use Rattle.gos_types.specs.Types.{Type'}
use Rattle.gos_types.specs.Events.{Direction, Request, Answer}
use Rattle.gos_plan.specs.Kinds.{Share, Contact, contacts_of}
use Rattle.gos_plan.specs.Firing.{Rest, State, at, Slot, Req, Ans, put, Row, firing}
use Rattle.gos_plan.specs.Tokens.{shake_of, way_taken, way_put}
use Rattle.gos_realises.specs.realises.Regular.{count}
use Rattle.gos_sharing.specs.sharing.Sharing.{IsForCaller}
use Rattle.gos_sharing.proofs.sharing.ShareRowLemmas.{Passes, passing}
use Rattle.gos_sharing.proofs.buffers.GroundLemmas.{next_rests}
use Rattle.gos_sharing.proofs.behind.HandingLemmas.{slot_of, caller_number, share_takes, takes_inward, takes_outward}

-- what a row of a token does that is handed on from handshake h to handshake g
pub record Row' (t : Type') (c h g : ℕ) (way : Direction) (q : State) : Type 0 where
  pub row : Row
  pub fires : firing (Share t) q (slot_of way h) ≡ Some row
  pub takes : row.takes ≡ slot_of way h
  pub next : (v : ℕ) → row.next v ≡ at Rest c
  pub puts : (v : ℕ) → row.puts v ≡ put (slot_of way g) v ∷ []

shake_so : (way : Direction) (h : ℕ) → shake_of (slot_of way h) ≡ h
shake_so Request h = refl
shake_so Answer h = refl

req_is : (h g : ℕ) → Req h ≡ Req g → h ≡ g
req_is h g e = cc e

ans_is : (h g : ℕ) → Ans h ≡ Ans g → h ≡ g
ans_is h g e = cc e

req_ans : (h g : ℕ) → Req h ≡ Ans g → ⊥
req_ans h g e = cc e

abbrev PutsSo : Row → Slot → Type 0
PutsSo r s = (v : ℕ) → r.puts v ≡ put s v ∷ []

module _ (t : Type') (c : ℕ) (two : c < 2) (j : ℕ) (k : Contact) (there : slice_get (contacts_of t) j ≡ Some k) where
  low : j < count t
  low = slice_get_within (contacts_of t) j k there

  in_puts : (role : Role) (r : Row) → r.takes ≡ slot_of (way_taken role) (caller_number t c j) → Passes t c r → PutsSo r (slot_of (way_taken role) j)
  in_puts Serve r takes (l, Serve, (d, at_l, is), inl (takes_l, puts)) =
      let e = req_is (caller_number t c j) (caller_number t c l) (sym takes ∙ takes_l) in
      let same : l ≡ j = omega (arith, e) in λ v. puts v ∙ ap (λ n. put (Req n) v ∷ []) same
  in_puts Serve r takes (l, Serve, (d, at_l, is), inr (takes_l, puts)) = absurd (req_ans (caller_number t c j) l (sym takes ∙ takes_l))
  in_puts Serve r takes (l, Ask, (d, at_l, is), inl (takes_l, puts)) =
      let e = req_is (caller_number t c j) l (sym takes ∙ takes_l) in
      let small = slice_get_within (contacts_of t) l d at_l in absurd (omega (arith, e, small))
  in_puts Serve r takes (l, Ask, (d, at_l, is), inr (takes_l, puts)) = absurd (req_ans (caller_number t c j) (caller_number t c l) (sym takes ∙ takes_l))
  in_puts Ask r takes (l, Serve, (d, at_l, is), inl (takes_l, puts)) = absurd (req_ans (caller_number t c l) (caller_number t c j) (sym takes_l ∙ takes))
  in_puts Ask r takes (l, Serve, (d, at_l, is), inr (takes_l, puts)) =
      let e = ans_is (caller_number t c j) l (sym takes ∙ takes_l) in
      let small = slice_get_within (contacts_of t) l d at_l in absurd (omega (arith, e, small))
  in_puts Ask r takes (l, Ask, (d, at_l, is), inl (takes_l, puts)) = absurd (req_ans l (caller_number t c j) (sym takes_l ∙ takes))
  in_puts Ask r takes (l, Ask, (d, at_l, is), inr (takes_l, puts)) =
      let e = ans_is (caller_number t c j) (caller_number t c l) (sym takes ∙ takes_l) in
      let same : l ≡ j = omega (arith, e) in λ v. puts v ∙ ap (λ n. put (Ans n) v ∷ []) same

  out_puts : (role : Role) (r : Row) → r.takes ≡ slot_of (way_put role) j → Passes t c r → PutsSo r (slot_of (way_put role) (caller_number t c j))
  out_puts Serve r takes (l, Serve, (d, at_l, is), inl (takes_l, puts)) = absurd (req_ans (caller_number t c l) j (sym takes_l ∙ takes))
  out_puts Serve r takes (l, Serve, (d, at_l, is), inr (takes_l, puts)) =
      let same : l ≡ j = sym (ans_is j l (sym takes ∙ takes_l)) in λ v. puts v ∙ ap (λ n. put (Ans (caller_number t c n)) v ∷ []) same
  out_puts Serve r takes (l, Ask, (d, at_l, is), inl (takes_l, puts)) = absurd (req_ans l j (sym takes_l ∙ takes))
  out_puts Serve r takes (l, Ask, (d, at_l, is), inr (takes_l, puts)) =
      let e = ans_is j (caller_number t c l) (sym takes ∙ takes_l) in
      let small = low in absurd (omega (arith, e, small))
  out_puts Ask r takes (l, Serve, (d, at_l, is), inl (takes_l, puts)) =
      let e = req_is j (caller_number t c l) (sym takes ∙ takes_l) in
      let small = low in absurd (omega (arith, e, small))
  out_puts Ask r takes (l, Serve, (d, at_l, is), inr (takes_l, puts)) = absurd (req_ans j l (sym takes ∙ takes_l))
  out_puts Ask r takes (l, Ask, (d, at_l, is), inl (takes_l, puts)) =
      let same : l ≡ j = sym (req_is j l (sym takes ∙ takes_l)) in λ v. puts v ∙ ap (λ n. put (Req (caller_number t c n)) v ∷ []) same
  out_puts Ask r takes (l, Ask, (d, at_l, is), inr (takes_l, puts)) = absurd (req_ans j (caller_number t c l) (sym takes ∙ takes_l))

  pub inward_row : (q : State) → q ≡ at Rest c → Row' t c (caller_number t c j) j (way_taken k.role) q
  inward_row q is =
      let rests : q.phase ≡ Rest = ap (λ (y : State). y.phase) is in
      let number : q.number ≡ c = ap (λ (y : State). y.number) is in
      let slot = slot_of (way_taken k.role) (caller_number t c j) in
      let found = share_takes t q slot j k rests there (takes_inward (count t) c q.number j k.role two (λ e. number)) in
      let small = low in
      let for : IsForCaller t c q.number (shake_of slot) =
      subst (λ (h : ℕ). IsForCaller t c q.number h) (sym (shake_so (way_taken k.role) (caller_number t c j))) (inl (omega arith, omega (arith, small))) in
      let pass = passing t c two q slot found.0 found.1 in
      let here : IsForCaller t c q.number (shake_of found.0.takes) = subst (λ (y : Slot). IsForCaller t c q.number (shake_of y)) (sym pass.0) for in
      record {
        row = found.0;
        fires = found.1;
        takes = pass.0;
        next = λ v. next_rests t c two q slot found.0 v found.1 for;
        puts = in_puts k.role found.0 pass.0 (pass.1 here);
      }

  pub outward_row : (q : State) → q ≡ at Rest c → Row' t c j (caller_number t c j) (way_put k.role) q
  outward_row q is =
      let rests : q.phase ≡ Rest = ap (λ (y : State). y.phase) is in
      let number : q.number ≡ c = ap (λ (y : State). y.number) is in
      let slot = slot_of (way_put k.role) j in
      let found = share_takes t q slot j k rests there (takes_outward (count t) q.number j k.role) in
      let for : IsForCaller t c q.number (shake_of slot) = subst (λ (h : ℕ). IsForCaller t c q.number h) (sym (shake_so (way_put k.role) j)) (inr (low, number)) in
      let pass = passing t c two q slot found.0 found.1 in
      let here : IsForCaller t c q.number (shake_of found.0.takes) = subst (λ (y : Slot). IsForCaller t c q.number (shake_of y)) (sym pass.0) for in
      record {
        row = found.0;
        fires = found.1;
        takes = pass.0;
        next = λ v. next_rests t c two q slot found.0 v found.1 for;
        puts = out_puts k.role found.0 pass.0 (pass.1 here);
      }
