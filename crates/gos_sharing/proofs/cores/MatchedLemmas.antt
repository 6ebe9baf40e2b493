-- A plan whose core realises a command or an expression realises it.
use Rattle.std.specs.Prelude.{List, [], ◌∷◌, ℕ, Option, Some, None, Contains}
use Rattle.std.proofs.Common.{◌≡◌, refl, sym, ◌∙◌, subst}
use Rattle.gos_types.specs.Events.{Answer}
use Rattle.gos_model.specs.Moves.{Program, Config, Act}
use Rattle.gos_plan.specs.Kinds.{Contact}
use Rattle.gos_plan.specs.Firing.{Slot, Req, Ans}
use Rattle.gos_plan.specs.Plans.{End, PartEnd, ImportEnd, ResultEnd, Joint, Plan, IsRight, contact_at}
use Rattle.gos_plan.specs.Tokens.{Tokens, Element, Fire, Out, In, with_token, end_of, way_of, way_taken, fired, Passes, Does, IsQuiet}
use Rattle.gos_plan.specs.Orderly.{none_open}
use Rattle.gos_realises.specs.realises.Matched.{shows, GoesOn, Agrees, IsMatched, program_of}
use Rattle.gos_joining.specs.webs.Webs.{joint}
use Rattle.gos_supplies.proofs.unjoined.DoneLemmas.{whole_done}
use Rattle.gos_sharing.specs.cores.Cores.{CoreIsDone}
use Rattle.gos_sharing.proofs.cores.TrimLemmas.{trimmed, Clear, ClearAlong, clear_first, lies_live, lies_small, token_live, contact_small, does_small, order_large}
use Rattle.gos_sharing.proofs.cores.CoreLemmas.{seats, kept, live, within, live_placed}
use Rattle.gos_sharing.proofs.cores.RegularLemmas.{along, live_runs, inputs_small}

module _ (r : Plan) (js : List Joint) (right : IsRight r) (within : (a b : End) → Contains js (joint a b) → Contains r.joints (joint a b)) where
  abbrev small : Plan
  small = trimmed r js

  -- what is shown
  shows_small : (x : Element) → shows small x ≡ shows r x
  shows_small (Fire i t) = refl
  shows_small (Out (PartEnd i h) v) = refl
  shows_small (Out (ImportEnd i h) v) = refl
  shows_small (Out (ResultEnd h) v) = refl
  shows_small (In (PartEnd i h) v) = refl
  shows_small (In (ImportEnd i h) v) = refl
  shows_small (In (ResultEnd h) v) = refl

  goes_large : (x : Element) (s : Tokens) (acts : List Act) → Clear r js right within s → GoesOn small s x acts → GoesOn r s x acts
  goes_large (Fire i (Req h)) s acts clear goes = tt
  goes_large (Fire i (Ans h)) s acts clear goes = λ v row lies fires asks.
      let live = lies_live r js right within (PartEnd i h) s Answer v clear lies in
      goes v row (token_live r js right within (PartEnd i h) s Answer live ∙ lies) fires asks
  goes_large (Out e v) s acts clear goes = tt
  goes_large (In e v) s acts clear goes = tt

  -- the trimmed plan is quiet where the plan is
  quiet_small : (s : Tokens) → IsQuiet r s → IsQuiet small s
  quiet_small s quiet = (no_fire, no_out)
    where
      no_fire : (i : ℕ) (t : Slot) (w : Tokens) → Does small (Fire i t) s w → ⊥
      no_fire i t w (v, row, lies, fires, leads) =
          let here = lies_small r js right within (end_of i t) s (way_of t) v lies in
          quiet.0 i t (fired r i row v s) (v, row, sym (token_live r js right within (end_of i t) s (way_of t) here) ∙ lies, fires, refl)

      no_out : (e : End) (v : ℕ) (w : Tokens) → Does small (Out e v) s w → ⊥
      no_out e v w (port, passes) = by_contact (contact_at r e) refl (subst (λ (o : Option Contact). Passes small (Out e v) o s w) (contact_small r js right within e) passes)
        where
          by_contact : (o : Option Contact) → contact_at r e ≡ o → Passes small (Out e v) o s w → ⊥
          by_contact None there h = h
          by_contact (Some c) there (lies, leads) =
              let here = lies_small r js right within e s (way_taken c.role) v lies in
              let next = with_token r e (way_taken c.role) None s in
              quiet.1 e v next
              (port, subst (λ (o : Option Contact). Passes r (Out e v) o s next) (sym there) (sym (token_live r js right within e s (way_taken c.role) here) ∙ lies, refl))

  agrees_large : (g : Program) (s : Tokens) (d : Config) → Agrees small g s d → Agrees r g s d
  agrees_large g s d agrees = (λ quiet. agrees.0 (quiet_small s quiet), agrees.1)

  pub matched_large : (g : Program) (xs : List Element) (s : Tokens) (d : Config) → ClearAlong r js right within xs s → IsMatched small g xs s d → IsMatched r g xs s d
  matched_large g [] s d clear matched = agrees_large g s d matched
  matched_large g (x ∷ xs) s d clear (agrees, after) = (
    agrees_large g s d agrees,
    λ t does.
        let later = clear.1 t does in
        let (acts, e, moves, shown, goes, rest) = after t (does_small r js right within x s t clear.0 (clear_first r js right within xs t later) does) in
        (acts, e, moves, shown ∙ shows_small x, goes_large x s acts clear.0 goes, matched_large g xs t e later rest),
  )

pub core_is_done : CoreIsDone
core_is_done f r c m is still names knows realised s t xs idle runs turns =
    let clear = along f r c is still s xs idle turns in
    let (matched, (u, z, order)) =
    whole_done (seats f r c is) (live f r c is) c (live_placed f r c is) m names knows realised s t xs idle (live_runs f r c is still s t xs idle runs turns)
    (inputs_small f r c is xs [] turns)
    in (
      matched_large r (kept f r c is) is.right (within f r c is) (program_of r m) xs s _ clear matched,
      (u, z, order_large r (kept f r c is) is.right (within f r c is) xs none_open s u z clear order),
    )
