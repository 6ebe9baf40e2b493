-- The plan of an access is regular where the plan of its index is.
--
-- Each side has a list of its own so far, which is regular, so its next element comes in order there, and in the whole; and what it
-- puts out keeps turns there, and in the whole, since the array asks for the index within an access alone.
use Rattle.std.specs.Prelude.{◌≡◌, ◌⊎◌, ℕ, zero, suc, ◌||◌, Bool, true, false, List, [], ◌∷◌, Option, Some, None, All, slice_get}
use Rattle.std.proofs.Common.{refl, sym, ◌∙◌, ap, subst, arith, inl, inr}
use Rattle.std.proofs.lemmas.Option.{none-some}
use Rattle.gos_types.specs.Events.{Direction, Request}
use Rattle.gos_types.specs.Types.{Type', Exp, Var, Fun, IsDone}
use Rattle.gos_model.specs.Terms.{Name}
use Rattle.gos_model.specs.Typing.{Imported}
use Rattle.gos_plan.specs.Kinds.{Part, Contact, serves, contacts_of}
use Rattle.gos_plan.specs.Firing.{Slot, Row}
use Rattle.gos_plan.specs.Plans.{End, PartEnd, ImportEnd, ResultEnd, Plan, contact_at, contacts_of_part, contacts_of_import, turned_if}
use Rattle.gos_plan.specs.Tokens.{Tokens, Element, Fire, Out, In, shake_of, firing_of, Does, Runs, IsIdle}
use Rattle.gos_plan.specs.TokenBits.{LiteralFits, AllFit}
use Rattle.gos_plan.specs.Orderly.{Open, none_open, ComesInOrder, AllWelcome, OrderlyFrom}
use Rattle.gos_plan.proofs.ContactLemmas.{part_is_there}
use Rattle.gos_plan.proofs.TokenBitsLemmas.{all_stay_fit, idle_fits}
use Rattle.gos_realises.specs.realises.Regular.{Pass, pass, is_request, way_in, way_out, is_open, KeepsTurnsOf, ComesInTurn, KeepsTurns, InputsKeepTurns, OutputsKeepTurns, IsRegular}
use Rattle.gos_realises.proofs.realises.InputLemmas.{in_there, out_there}
use Rattle.gos_realises.proofs.realises.PassLemmas.{open_itself, open_otherwise, same_turn}
use Rattle.gos_realises.proofs.realises.RingLemmas.{after}
use Rattle.gos_joining.specs.webs.Cutting.{Cut, lies_at, cut_tokens}
use Rattle.gos_joining.proofs.webs.CutLemmas.{port_lies}
use Rattle.gos_joining.proofs.webs.IdleLemmas.{idle_is_cut}
use Rattle.gos_plan.proofs.ElementLemmas.{firing_part}
use Rattle.gos_supplies.proofs.arrays.ShownLemmas.{import_there}
use Rattle.gos_supplies.specs.arrays.Made.{IsAccess}
use Rattle.gos_supplies.proofs.turns.GoesLemmas.{IsTurned}
use Rattle.gos_supplies.proofs.turns.RunLemmas.{Reached, at_first, Next, next}
use Rattle.gos_supplies.proofs.turns.TurnedLemmas.{res, in_import, in_result}
use Rattle.gos_supplies.proofs.turns.WholeLemmas.{first_turned}
use Rattle.gos_supplies.proofs.arrays.ElementLemmas.{Whose, Own, Index, of_numbers, whose, own_part, index_part, own_name, index_name, own_side, index_side, own_outer, index_outer, own_contact, index_contact, splits}
use Rattle.gos_supplies.proofs.arrays.OrderLemmas.{Agrees}
use Rattle.gos_supplies.proofs.arrays.ComesLemmas.{Comes, out_comes, in_comes, fire_comes, token_of, firing_same}
use Rattle.gos_supplies.proofs.arrays.TurnLemmas.{Alike, alike_first, pass_access, pass_result, pass_asked, pass_other, Within, whole_turned, own_turned, within_turned, other_turned}
use Rattle.gos_supplies.proofs.arrays.ApartLemmas.{own_is_side, index_is_side, sides_apart, apart_back}

pub outputs_then : (r : Plan) (y : Element) (ys : List Element) (past : List Pass) → OutputsKeepTurns r past (y ∷ []) → OutputsKeepTurns r (after r y past) ys
    → OutputsKeepTurns r past (y ∷ ys)
outputs_then r (Fire k slot) ys past one rest = rest
outputs_then r (Out e v) ys past one rest = (one.0, rest)
outputs_then r (In e v) ys past one rest = rest

first_input : (r : Plan) (y : Element) (ys : List Element) (past : List Pass) → InputsKeepTurns r past (y ∷ ys)
    → InputsKeepTurns r past (y ∷ []) × InputsKeepTurns r (after r y past) ys
first_input r (Fire k slot) ys past keeps = (tt, keeps)
first_input r (Out e v) ys past keeps = (tt, keeps)
first_input r (In e v) ys past keeps = ((keeps.0, tt), keeps.1)

within_same : (e : End) (way : Direction) (past : List Pass) → (e ≡ ImportEnd 0 0 → ⊥) → (e ≡ ImportEnd 0 1 → ⊥) → (e ≡ ImportEnd 0 2 → ⊥) → Within past → Within (pass e way ∷ past)
within_same e way past zeroth first second within up =
    (λ z. open_otherwise e (ImportEnd 0 1) way past first z || open_otherwise e (ImportEnd 0 2) way past second z)
    ∙ within (sym (open_otherwise e (ImportEnd 0 0) way past zeroth) ∙ up)

module _
    (i w : ℕ) (x : Name) (f g : Cut) (r p q : Plan) (is : IsAccess i w x f g r p q) (done : IsDone p.outcome) (literals : All LiteralFits r.parts)
    (own_regular : IsRegular p) (index_regular : IsRegular q) where
  -- The whole goes on as its sides do.
  record Goes (s : Tokens) (past : List Pass) (o : Open) : Type 0 where
    own_open : Open
    own_past : List Pass
    own_reached : Reached p own_open own_past (cut_tokens f p s)
    index_open : Open
    index_past : List Pass
    index_reached : Reached q index_open index_past (cut_tokens g q s)
    own_agrees : Agrees f r p (own_is_side i w x f g r p q is) o own_open
    index_agrees : Agrees g r q (index_is_side i w x f g r p q is) o index_open
    alike : Alike past own_past index_past
    own_turns : IsTurned p own_past
    index_turns : IsTurned q index_past
    within : Within past
    fit : AllFit r s

  record Went (y : Element) (s t : Tokens) (past : List Pass) (o : Open) : Type 0 where
    open_then : Open
    comes : ComesInOrder r y s o open_then
    welcome : AllWelcome r t
    outputs : OutputsKeepTurns r past (y ∷ [])
    goes : Goes t (after r y past) open_then

  -- a token finds a row of its part in the side
  all_welcome : (t : Tokens) → AllWelcome p (cut_tokens f p t) → AllWelcome q (cut_tokens g q t) → AllWelcome r t
  all_welcome t own index k slot c v there ways held =
      let (z, part) = part_is_there (slice_get r.parts k) (shake_of slot) c there in by_part z part (is.parts k z part)
    where
      by_part : (z : Part) → slice_get r.parts k ≡ Some z
          → ((j : ℕ) × (f.number k ≡ Some j) × (g.number k ≡ None)) ⊎ ((j : ℕ) × (g.number k ≡ Some j) × (f.number k ≡ None))
          → (row : Row) × (firing_of (slice_get r.parts k) (t.state k) slot ≡ Some row)
      by_part z part (inl (j, number, none)) =
          let (at, (u, also)) = is.own.numbers k j number in
          let same : slice_get p.parts j ≡ slice_get r.parts k = also ∙ (sym (is.own.parts j u also).0 ∙ ap (slice_get r.parts) at) in
          let (row, fires) = own j slot c v (ap (λ (o : Option Part). slice_get (contacts_of_part o) (shake_of slot)) same ∙ there) ways
          (token_of f g r p q own_name (own_side i w x f g r p q is) (own_is_side i w x f g r p q is) (sides_apart i w x f g r p q is) k j slot number t t v held) in
          (row, sym (firing_same f g r p q own_name (own_side i w x f g r p q is) (own_is_side i w x f g r p q is) (sides_apart i w x f g r p q is) k j slot number t t) ∙ fires)
      by_part z part (inr (j, number, none)) =
          let (at, (u, also)) = is.index.numbers k j number in
          let same : slice_get q.parts j ≡ slice_get r.parts k = also ∙ (sym (is.index.parts j u also).0 ∙ ap (slice_get r.parts) at) in
          let (row, fires) = index j slot c v (ap (λ (o : Option Part). slice_get (contacts_of_part o) (shake_of slot)) same ∙ there) ways
          (token_of g f r q p index_name (index_side i w x f g r p q is) (index_is_side i w x f g r p q is) (apart_back i w x f g r p q is) k j slot number t t v held) in
          (row, sym (firing_same g f r q p index_name (index_side i w x f g r p q is) (index_is_side i w x f g r p q is) (apart_back i w x f g r p q is) k j slot number t t) ∙ fires)

  -- an element of the own plan
  module _ (y e : Element) (own : whose f g y ≡ Own e) (s t : Tokens) (past : List Pass) (o : Open) (so : Goes s past o) (does : Does r y s t) where
    own_does : Does p e (cut_tokens f p s) (cut_tokens f p t)
    own_does =
        let (u, one, there) =
        subst (λ (z : Whose). Runs p (own_part z) (cut_tokens f p s) (cut_tokens f p t)) own (splits i w x f g r p q is literals s t so.fit y does).own in
        subst (λ (v : Tokens). Does p e (cut_tokens f p s) v) (sym there) one

    index_stays : cut_tokens g q t ≡ cut_tokens g q s
    index_stays =
        subst (λ (z : Whose). Runs q (index_part z) (cut_tokens g q s) (cut_tokens g q t)) own (splits i w x f g r p q is literals s t so.fit y does).index

    own_went : (n : Next p e so.own_open so.own_past (cut_tokens f p s) (cut_tokens f p t))
        → Comes f g r p q own_name (own_side i w x f g r p q is) (own_is_side i w x f g r p q is) (sides_apart i w x f g r p q is) y s o n.open_then so.index_open
        → OutputsKeepTurns r past (y ∷ []) → Alike (after r y past) (after p e so.own_past) so.index_past → IsTurned p (after p e so.own_past) → Within (after r y past)
        → Went y s t past o
    own_went n comes outputs alike turned within =
        record {
          open_then = comes.open_then;
          comes = comes.comes;
          welcome = all_welcome t n.welcome (subst (AllWelcome q) (sym index_stays) so.index_reached.welcome);
          outputs = outputs;
          goes =
              record {
                own_open = n.open_then;
                own_past = after p e so.own_past;
                own_reached = n.reached;
                index_open = so.index_open;
                index_past = so.index_past;
                index_reached = subst (Reached q so.index_open so.index_past) (sym index_stays) so.index_reached;
                own_agrees = comes.agrees;
                index_agrees = comes.others;
                alike = alike;
                own_turns = turned;
                index_turns = so.index_turns;
                within = within;
                fit = all_stay_fit r (y ∷ []) s t is.own.whole_right literals so.fit (t, does, refl);
              };
        }

  -- and of the index
  module _ (y e : Element) (index : whose f g y ≡ Index e) (s t : Tokens) (past : List Pass) (o : Open) (so : Goes s past o) (does : Does r y s t) where
    index_does : Does q e (cut_tokens g q s) (cut_tokens g q t)
    index_does =
        let (u, one, there) =
        subst (λ (z : Whose). Runs q (index_part z) (cut_tokens g q s) (cut_tokens g q t)) index (splits i w x f g r p q is literals s t so.fit y does).index in
        subst (λ (v : Tokens). Does q e (cut_tokens g q s) v) (sym there) one

    own_stays : cut_tokens f p t ≡ cut_tokens f p s
    own_stays =
        subst (λ (z : Whose). Runs p (own_part z) (cut_tokens f p s) (cut_tokens f p t)) index (splits i w x f g r p q is literals s t so.fit y does).own

    index_went : (n : Next q e so.index_open so.index_past (cut_tokens g q s) (cut_tokens g q t))
        → Comes g f r q p index_name (index_side i w x f g r p q is) (index_is_side i w x f g r p q is) (apart_back i w x f g r p q is) y s o n.open_then so.own_open
        → OutputsKeepTurns r past (y ∷ []) → Alike (after r y past) so.own_past (after q e so.index_past) → IsTurned q (after q e so.index_past) → Within (after r y past)
        → Went y s t past o
    index_went n comes outputs alike turned within =
        record {
          open_then = comes.open_then;
          comes = comes.comes;
          welcome = all_welcome t (subst (AllWelcome p) (sym own_stays) so.own_reached.welcome) n.welcome;
          outputs = outputs;
          goes =
              record {
                own_open = so.own_open;
                own_past = so.own_past;
                own_reached = subst (Reached p so.own_open so.own_past) (sym own_stays) so.own_reached;
                index_open = n.open_then;
                index_past = after q e so.index_past;
                index_reached = n.reached;
                own_agrees = comes.others;
                index_agrees = comes.agrees;
                alike = alike;
                own_turns = so.own_turns;
                index_turns = turned;
                within = within;
                fit = all_stay_fit r (y ∷ []) s t is.own.whole_right literals so.fit (t, does, refl);
              };
        }

  -- firings
  went_fire : (k : ℕ) (slot : Slot) (s t : Tokens) (past : List Pass) (o : Open) → Goes s past o → Does r (Fire k slot) s t → Went (Fire k slot) s t past o
  went_fire k slot s t past o so does =
      let (z, part) = firing_part (slice_get r.parts k) (s.state k) slot does.1 does.3 in by_part (is.parts k z part)
    where
      by_part : ((j : ℕ) × (f.number k ≡ Some j) × (g.number k ≡ None)) ⊎ ((j : ℕ) × (g.number k ≡ Some j) × (f.number k ≡ None)) → Went (Fire k slot) s t past o
      by_part (inl (j, number, none)) =
          let own : whose f g (Fire k slot) ≡ Own (Fire j slot) = ap (λ (z : Option ℕ). of_numbers z (g.number k) slot) number in
          let n = next p (Fire j slot) so.own_open so.own_past (cut_tokens f p s) (cut_tokens f p t) own_regular so.own_reached
          (own_does (Fire k slot) (Fire j slot) own s t past o so does) tt
          in
          own_went (Fire k slot) (Fire j slot) own s t past o so does n
          (fire_comes f g r p q own_name (own_side i w x f g r p q is) (own_is_side i w x f g r p q is) (sides_apart i w x f g r p q is) k j slot number s t o so.own_open so.index_open
          n.open_then does so.own_agrees so.index_agrees n.comes) tt so.alike so.own_turns so.within
      by_part (inr (j, number, none)) =
          let index : whose f g (Fire k slot) ≡ Index (Fire j slot) = λ z. of_numbers (none z) (number z) slot in
          let n = next q (Fire j slot) so.index_open so.index_past (cut_tokens g q s) (cut_tokens g q t) index_regular so.index_reached
          (index_does (Fire k slot) (Fire j slot) index s t past o so does) tt
          in
          index_went (Fire k slot) (Fire j slot) index s t past o so does n
          (fire_comes g f r q p index_name (index_side i w x f g r p q is) (index_is_side i w x f g r p q is) (apart_back i w x f g r p q is) k j slot number s t o so.index_open so.own_open
          n.open_then does so.index_agrees so.own_agrees n.comes) tt so.alike so.index_turns so.within

  -- where a port of a side lies
  own_lies : (b d : End) → own_name b ≡ Some d → lies_at f d ≡ b
  own_lies b d name = let (at, port) = own_outer i w x f g r p q is b d name in port_lies f d port ∙ at

  index_lies : (b d : End) → index_name b ≡ Some d → lies_at g d ≡ b
  index_lies b d name = let (at, port) = index_outer i w x f g r p q is b d name in port_lies g d port ∙ at

  -- an output of the own plan, and of the index
  own_out : (b d : End) (v : ℕ) (s t : Tokens) (past : List Pass) (o : Open) (so : Goes s past o) → Does r (Out b v) s t
      → whose f g (Out b v) ≡ Own (Out d v) → own_name b ≡ Some d → is_open so.own_past d ≡ is_open past b
      → ((way : Direction) → Alike (pass b way ∷ past) (pass d way ∷ so.own_past) so.index_past) → Within (pass b (way_out (contact_at r b)) ∷ past)
      → Went (Out b v) s t past o
  own_out b d v s t past o so does own name opened alike within =
      let (k, there) = out_there r b v s t does in
      let same = own_contact i w x f g r p q is b d name in
      let n = next p (Out d v) so.own_open so.own_past (cut_tokens f p s) (cut_tokens f p t) own_regular so.own_reached (own_does (Out b v) (Out d v) own s t past o so does) tt in
      let ways : way_out (contact_at p d) ≡ way_out (contact_at r b) = ap way_out same in
      let then = subst (λ (u : Direction). Alike (pass b (way_out (contact_at r b)) ∷ past) (pass d u ∷ so.own_past) so.index_past) (sym ways) (alike (way_out (contact_at r b))) in
      let turns = n.outputs.0 in
      own_went (Out b v) (Out d v) own s t past o so does n
      (out_comes f g r p q own_name (own_side i w x f g r p q is) (own_is_side i w x f g r p q is) (sides_apart i w x f g r p q is) b d v k s o so.own_open so.index_open n.open_then
      (own_lies b d name) there (same ∙ there) so.own_agrees so.index_agrees n.comes) (
        (
          same_turn so.own_past past d b (way_out (contact_at r b)) opened (subst (ComesInTurn so.own_past d) ways turns.0),
          whole_turned i w x f g r p q is done (pass b (way_out (contact_at r b)) ∷ past) (pass d (way_out (contact_at p d)) ∷ so.own_past) so.index_past then turns.1 so.index_turns within,
        ),
        tt,
      )
      then turns.1 within

  index_out : (b d : End) (v : ℕ) (s t : Tokens) (past : List Pass) (o : Open) (so : Goes s past o) → Does r (Out b v) s t
      → whose f g (Out b v) ≡ Index (Out d v) → index_name b ≡ Some d → is_open so.index_past d ≡ is_open past b
      → ((way : Direction) → Alike (pass b way ∷ past) so.own_past (pass d way ∷ so.index_past)) → Within (pass b (way_out (contact_at r b)) ∷ past)
      → Went (Out b v) s t past o
  index_out b d v s t past o so does index name opened alike within =
      let (k, there) = out_there r b v s t does in
      let same = index_contact i w x f g r p q is b d name in
      let n = next q (Out d v) so.index_open so.index_past (cut_tokens g q s) (cut_tokens g q t) index_regular so.index_reached (index_does (Out b v) (Out d v) index s t past o so does) tt in
      let ways : way_out (contact_at q d) ≡ way_out (contact_at r b) = ap way_out same in
      let then = subst (λ (u : Direction). Alike (pass b (way_out (contact_at r b)) ∷ past) so.own_past (pass d u ∷ so.index_past)) (sym ways) (alike (way_out (contact_at r b))) in
      let turns = n.outputs.0 in
      index_went (Out b v) (Out d v) index s t past o so does n
      (out_comes g f r q p index_name (index_side i w x f g r p q is) (index_is_side i w x f g r p q is) (apart_back i w x f g r p q is) b d v k s o so.index_open so.own_open n.open_then
      (index_lies b d name) there (same ∙ there) so.index_agrees so.own_agrees n.comes) (
        (
          same_turn so.index_past past d b (way_out (contact_at r b)) opened (subst (ComesInTurn so.index_past d) ways turns.0),
          whole_turned i w x f g r p q is done (pass b (way_out (contact_at r b)) ∷ past) so.own_past (pass d (way_out (contact_at q d)) ∷ so.index_past) then so.own_turns turns.1 within,
        ),
        tt,
      )
      then turns.1 within

  -- inputs
  own_in : (b d : End) (v : ℕ) (s t : Tokens) (past : List Pass) (o : Open) (so : Goes s past o) → Does r (In b v) s t
      → whose f g (In b v) ≡ Own (In d v) → own_name b ≡ Some d → is_open so.own_past d ≡ is_open past b
      → ((way : Direction) → Alike (pass b way ∷ past) (pass d way ∷ so.own_past) so.index_past) → KeepsTurns r past (pass b (way_in (contact_at r b)))
      → Went (In b v) s t past o
  own_in b d v s t past o so does own name opened alike keeps =
      let (k, there) = in_there r b v s t does in
      let same = own_contact i w x f g r p q is b d name in
      let ways : way_in (contact_at p d) ≡ way_in (contact_at r b) = ap way_in same in
      let then = subst (λ (u : Direction). Alike (pass b (way_in (contact_at r b)) ∷ past) (pass d u ∷ so.own_past) so.index_past) (sym ways) (alike (way_in (contact_at r b))) in
      let turned = own_turned i w x f g r p q is done (pass b (way_in (contact_at r b)) ∷ past) (pass d (way_in (contact_at p d)) ∷ so.own_past) so.index_past then keeps.1 in
      let here = subst (ComesInTurn so.own_past d) (sym ways) (same_turn past so.own_past b d (way_in (contact_at r b)) (sym opened) keeps.0) in
      let n = next p (In d v) so.own_open so.own_past (cut_tokens f p s) (cut_tokens f p t) own_regular so.own_reached (own_does (In b v) (In d v) own s t past o so does) ((here, turned), tt) in
      own_went (In b v) (In d v) own s t past o so does n
      (in_comes f g r p q own_name (own_side i w x f g r p q is) (own_is_side i w x f g r p q is) (sides_apart i w x f g r p q is) b d v k s o so.own_open so.index_open n.open_then
      (own_lies b d name) there (same ∙ there) so.own_agrees so.index_agrees n.comes)
      tt then turned
      (within_turned i w x f g r p q is done (pass b (way_in (contact_at r b)) ∷ past) (pass d (way_in (contact_at p d)) ∷ so.own_past) so.index_past then keeps.1)

  index_in : (b d : End) (v : ℕ) (s t : Tokens) (past : List Pass) (o : Open) (so : Goes s past o) → Does r (In b v) s t
      → whose f g (In b v) ≡ Index (In d v) → index_name b ≡ Some d → is_open so.index_past d ≡ is_open past b
      → ((way : Direction) → Alike (pass b way ∷ past) so.own_past (pass d way ∷ so.index_past)) → KeepsTurns r past (pass b (way_in (contact_at r b)))
      → IsTurned q (pass d (way_in (contact_at q d)) ∷ so.index_past)
      → Went (In b v) s t past o
  index_in b d v s t past o so does index name opened alike keeps turned =
      let (k, there) = in_there r b v s t does in
      let same = index_contact i w x f g r p q is b d name in
      let ways : way_in (contact_at q d) ≡ way_in (contact_at r b) = ap way_in same in
      let then = subst (λ (u : Direction). Alike (pass b (way_in (contact_at r b)) ∷ past) so.own_past (pass d u ∷ so.index_past)) (sym ways) (alike (way_in (contact_at r b))) in
      let here = subst (ComesInTurn so.index_past d) (sym ways) (same_turn past so.index_past b d (way_in (contact_at r b)) (sym opened) keeps.0) in
      let n = next q (In d v) so.index_open so.index_past (cut_tokens g q s) (cut_tokens g q t) index_regular so.index_reached (index_does (In b v) (In d v) index s t past o so does) ((here, turned), tt) in
      index_went (In b v) (In d v) index s t past o so does n
      (in_comes g f r q p index_name (index_side i w x f g r p q is) (index_is_side i w x f g r p q is) (apart_back i w x f g r p q is) b d v k s o so.index_open so.own_open n.open_then
      (index_lies b d name) there (same ∙ there) so.index_agrees so.own_agrees n.comes)
      tt then turned
      (within_turned i w x f g r p q is done (pass b (way_in (contact_at r b)) ∷ past) so.own_past (pass d (way_in (contact_at q d)) ∷ so.index_past) then keeps.1)

  -- the handshakes of the array
  array_contact : (h : ℕ) → contact_at r (ImportEnd 0 h) ≡ slice_get (contacts_of (Fun (Exp i) (Var w))) h
  array_contact h = ap (λ (us : List Imported). slice_get (contacts_of_import (slice_get us 0)) h) is.imports

  access_asked : (h v : ℕ) (s t : Tokens) (past : List Pass) → Does r (Out (ImportEnd 0 (suc h)) v) s t
      → Within (pass (ImportEnd 0 (suc h)) (way_out (contact_at r (ImportEnd 0 (suc h)))) ∷ past)
  access_asked zero v s t past does up =
      ap (λ (b : Bool). b || is_open (pass (ImportEnd 0 1) (way_out (contact_at r (ImportEnd 0 1))) ∷ past) (ImportEnd 0 2))
      (open_itself (ImportEnd 0 1) (way_out (contact_at r (ImportEnd 0 1))) past ∙ ap (λ (c : Option Contact). is_request (way_out c)) (array_contact 1))
  access_asked (suc zero) v s t past does up =
      ap (λ (b : Bool). is_open (pass (ImportEnd 0 2) (way_out (contact_at r (ImportEnd 0 2))) ∷ past) (ImportEnd 0 1) || b)
      (open_itself (ImportEnd 0 2) (way_out (contact_at r (ImportEnd 0 2))) past ∙ ap (λ (c : Option Contact). is_request (way_out c)) (array_contact 2))
      ∙ or_true (is_open (pass (ImportEnd 0 2) (way_out (contact_at r (ImportEnd 0 2))) ∷ past) (ImportEnd 0 1))
    where
      or_true : (b : Bool) → (b || true) ≡ true
      or_true true = refl
      or_true false = refl
  access_asked (suc (suc h)) v s t past does up =
      let (k, there) = out_there r (ImportEnd 0 (suc (suc (suc h)))) v s t does in absurd (none-some k (sym (array_contact (suc (suc (suc h)))) ∙ there))

  index_answered : (past : List Pass) → Within (pass (ImportEnd 0 0) (way_out (contact_at r (ImportEnd 0 0))) ∷ past)
  index_answered past up =
      let no : false ≡ true =
      sym (open_itself (ImportEnd 0 0) (way_out (contact_at r (ImportEnd 0 0))) past ∙ ap (λ (c : Option Contact). is_request (way_out c)) (array_contact 0)) ∙ up
      in
      absurd (cc no)

  -- the result of the index is asked
  asked_turned : (past : List Pass) → IsTurned q past → IsTurned q (pass (ResultEnd 0) (way_in (contact_at q (ResultEnd 0))) ∷ past)
  asked_turned past turned =
      subst (λ (u : Direction). IsTurned q (pass (ResultEnd 0) u ∷ past)) (sym (ap (λ (t : Type'). way_in (turned_if (slice_get (contacts_of t) 0))) is.number))
      (in_result q past 0 (serves 0 i) Request turned (ap (λ (t : Type'). slice_get (contacts_of t) 0) is.number) refl
      (subst (λ (t : Type'). KeepsTurnsOf t (res (pass (ResultEnd 0) Request ∷ past))) (sym is.number) tt))

  import_turned : (k h v : ℕ) (s t : Tokens) (past own index : List Pass) → Does r (In (ImportEnd (suc k) h) v) s t → Alike past own index → IsTurned q index
      → KeepsTurns r past (pass (ImportEnd (suc k) h) (way_in (contact_at r (ImportEnd (suc k) h))))
      → IsTurned q (pass (ImportEnd k h) (way_in (contact_at q (ImportEnd k h))) ∷ index)
  import_turned k h v s t past own index does so turned keeps =
      let (c, there) = in_there r (ImportEnd (suc k) h) v s t does in
      let same : contact_at q (ImportEnd k h) ≡ contact_at r (ImportEnd (suc k) h) = index_contact i w x f g r p q is (ImportEnd (suc k) h) (ImportEnd k h) refl in
      let (y, at) = import_there q.imports k h c (same ∙ there) in
      let ways : way_in (contact_at q (ImportEnd k h)) ≡ way_in (contact_at r (ImportEnd (suc k) h)) = ap way_in same in
      let then = subst (λ (u : Direction). Alike (pass (ImportEnd (suc k) h) (way_in (contact_at r (ImportEnd (suc k) h))) ∷ past) own (pass (ImportEnd k h) u ∷ index)) (sym ways)
      (pass_other k h (way_in (contact_at r (ImportEnd (suc k) h))) past own index so)
      in
      in_import q index k h y c (way_in (contact_at q (ImportEnd k h))) turned at (sym (ap (λ (o : Option Imported). slice_get (contacts_of_import o) h) at) ∙ (same ∙ there))
      (sym (ap way_in (same ∙ there)))
      (other_turned i w x f g r p q is done (pass (ImportEnd (suc k) h) (way_in (contact_at r (ImportEnd (suc k) h))) ∷ past) own
      (pass (ImportEnd k h) (way_in (contact_at q (ImportEnd k h))) ∷ index) then keeps.1 k y at)

  later_not_first : (k h g : ℕ) → ImportEnd (suc k) h ≡ ImportEnd 0 g → ⊥
  later_not_first k h g e = let n : suc k ≡ 0 = cc e in omega (arith, n)

  result_not_import : (h g : ℕ) → ResultEnd h ≡ ImportEnd 0 g → ⊥
  result_not_import h g e = cc e

  went : (y : Element) (s t : Tokens) (past : List Pass) (o : Open) → Goes s past o → Does r y s t → InputsKeepTurns r past (y ∷ []) → Went y s t past o
  went (Fire k slot) s t past o so does inputs = went_fire k slot s t past o so does
  went (Out (PartEnd k h) v) s t past o so does inputs = absurd does.0
  went (Out (ImportEnd zero zero) v) s t past o so does inputs =
      index_out (ImportEnd 0 0) (ResultEnd 0) v s t past o so does refl refl (sym so.alike.asked) (λ way. pass_asked way past so.own_past so.index_past so.alike) (index_answered past)
  went (Out (ImportEnd zero (suc h)) v) s t past o so does inputs =
      own_out (ImportEnd 0 (suc h)) (ImportEnd 0 h) v s t past o so does refl refl (sym (so.alike.access h)) (λ way. pass_access h way past so.own_past so.index_past so.alike)
      (access_asked h v s t past does)
  went (Out (ImportEnd (suc k) h) v) s t past o so does inputs =
      index_out (ImportEnd (suc k) h) (ImportEnd k h) v s t past o so does refl refl (sym (so.alike.others k h)) (λ way. pass_other k h way past so.own_past so.index_past so.alike)
      (within_same (ImportEnd (suc k) h) (way_out (contact_at r (ImportEnd (suc k) h))) past (later_not_first k h 0) (later_not_first k h 1) (later_not_first k h 2) so.within)
  went (Out (ResultEnd h) v) s t past o so does inputs =
      own_out (ResultEnd h) (ResultEnd h) v s t past o so does refl refl (sym (so.alike.result h)) (λ way. pass_result h way past so.own_past so.index_past so.alike)
      (within_same (ResultEnd h) (way_out (contact_at r (ResultEnd h))) past (result_not_import h 0) (result_not_import h 1) (result_not_import h 2) so.within)
  went (In (PartEnd k h) v) s t past o so does inputs = absurd does.0
  went (In (ImportEnd zero zero) v) s t past o so does inputs =
      index_in (ImportEnd 0 0) (ResultEnd 0) v s t past o so does refl refl (sym so.alike.asked) (λ way. pass_asked way past so.own_past so.index_past so.alike) inputs.0
      (asked_turned so.index_past so.index_turns)
  went (In (ImportEnd zero (suc h)) v) s t past o so does inputs =
      own_in (ImportEnd 0 (suc h)) (ImportEnd 0 h) v s t past o so does refl refl (sym (so.alike.access h)) (λ way. pass_access h way past so.own_past so.index_past so.alike) inputs.0
  went (In (ImportEnd (suc k) h) v) s t past o so does inputs =
      index_in (ImportEnd (suc k) h) (ImportEnd k h) v s t past o so does refl refl (sym (so.alike.others k h)) (λ way. pass_other k h way past so.own_past so.index_past so.alike) inputs.0
      (import_turned k h v s t past so.own_past so.index_past does so.alike so.index_turns inputs.0)
  went (In (ResultEnd h) v) s t past o so does inputs =
      own_in (ResultEnd h) (ResultEnd h) v s t past o so does refl refl (sym (so.alike.result h)) (λ way. pass_result h way past so.own_past so.index_past so.alike) inputs.0

  all_go : (ys : List Element) (s t : Tokens) (past : List Pass) (o : Open) → Goes s past o → Runs r ys s t → InputsKeepTurns r past ys
      → ((u : Open) × (z : Tokens) × OrderlyFrom r ys o s u z) × OutputsKeepTurns r past ys
  all_go [] s t past o so runs inputs = ((o, s, (refl, refl)), tt)
  all_go (y ∷ ys) s t past o so (m, does, runs) inputs =
      let (one, rest) = first_input r y ys past inputs in
      let step = went y s m past o so does one in
      let ((u, z, list), outputs) = all_go ys m t (after r y past) step.open_then step.goes runs rest in
      ((u, z, (step.open_then, m, does, step.comes, step.welcome, list)), outputs_then r y ys past step.outputs outputs)

  goes_first : (s : Tokens) → IsIdle r s → Goes s [] none_open
  goes_first s idle =
      record {
        own_open = none_open;
        own_past = [];
        own_reached = at_first p (cut_tokens f p s) (idle_is_cut f r p s idle);
        index_open = none_open;
        index_past = [];
        index_reached = at_first q (cut_tokens g q s) (idle_is_cut g r q s idle);
        own_agrees = λ e there. refl;
        index_agrees = λ e there. refl;
        alike = alike_first;
        own_turns = first_turned p;
        index_turns = first_turned q;
        within = λ up. absurd (cc up);
        fit = idle_fits r s idle;
      }

  pub access_is_regular_so : IsRegular r
  access_is_regular_so s t ys idle runs inputs = all_go ys s t [] none_open (goes_first s idle) runs inputs
