-- Where the whole is quiet its regions are, and where they and the part that asks them are idle the whole is.
use Rattle.std.specs.Prelude.{◌≡◌, ◌⊎◌, ◌&&◌, ℕ, Bool, true, false, List, [], ◌∷◌, Option, Some, None, nat_eq, nat_lt, length, Contains, slice_get, if◌then◌else◌}
use Rattle.std.proofs.Common.{arith, refl, sym, ap, subst, inl, inr, ◌∙◌}
use Rattle.std.proofs.lemmas.Option.{slice_get_within}
use Rattle.gos_types.specs.Types.{IsDone}
use Rattle.gos_types.specs.Events.{Direction, Request, Answer}
use Rattle.gos_plan.specs.Kinds.{Part, Contact, asks}
use Rattle.gos_plan.specs.Firing.{Rest, State, Slot, Ans, Token, at}
use Rattle.gos_plan.specs.Plans.{End, PartEnd, ImportEnd, ResultEnd, Plan, contact_at, same_end}
use Rattle.gos_plan.specs.Tokens.{Tokens, Element, Fire, Out, In, places_of, same_way, with_held, token_at, with_token, with_state, with_puts, end_of, way_of, way_taken, fired, Passes, Does, IsIdle, IsQuiet}
use Rattle.gos_plan.proofs.JointLemmas.{contained, found, same_is}
use Rattle.gos_plan.proofs.HeldLemmas.{nothing_there}
use Rattle.gos_plan.proofs.TurnLemmas.{token_state}
use Rattle.gos_plan.proofs.ElementLemmas.{firing_part}
use Rattle.gos_joining.specs.webs.Webs.{joint}
use Rattle.gos_joining.specs.webs.Cutting.{Cut, lies_at, StandsIn, asks_in, cut_tokens}
use Rattle.gos_joining.proofs.webs.MovedLemmas.{listed}
use Rattle.gos_joining.proofs.webs.CutLemmas.{asker_asks, asks_one, asks_there}
use Rattle.gos_nodes.specs.parallel.Parallel.{IsSide, IsJointOf, IsPartOf, IsParallel}
use Rattle.gos_nodes.proofs.parallel.GateLemmas.{gate, passes_out, passes_in, there_contact, first_shake}
use Rattle.gos_nodes.proofs.parallel.HungLemmas.{IsResult, IsHung, result_held, held_token, import_contact}
use Rattle.gos_nodes.proofs.parallel.StepLemmas.{hung_left, hung_right}
use Rattle.gos_nodes.proofs.parallel.OpenLemmas.{firing_same}

-- what is no place of a joint is empty, and what is no part is at rest
pub record Neat (r : Plan) (s : Tokens) : Type 0 where
  pub places : (way : Direction) (a : End) → asks_in r.joints a ≡ false → s.in_place way a ≡ None
  pub states : (i : ℕ) → slice_get r.parts i ≡ None → (s.state i).phase ≡ Rest

apart_so : (w t : Bool) (held old : Option ℕ) → t ≡ false → old ≡ None → (if w && t then held else old) ≡ None
apart_so true t held old e none = ap (λ (b : Bool). if b then held else old) e ∙ none
apart_so false t held old e none = none

neat_token : (r : Plan) (e : End) (way : Direction) (held : Option ℕ) (s : Tokens) → Neat r s → Neat r (with_token r e way held s)
neat_token r e way held s neat =
    record {
      places = λ w a none. by_place w a none (places_of r e) refl;
      states = λ i none. ap (λ (q : State). q.phase) (token_state r e way held s i) ∙ neat.states i none;
    }
  where
    differs : (a b : End) → asks_in r.joints a ≡ false → asks_in r.joints b ≡ true → same_end a b ≡ false
    differs a b none asks = by_test (same_end a b) refl
      where
        by_test : (t : Bool) → same_end a b ≡ t → t ≡ false
        by_test true t = let clash : true ≡ false = sym asks ∙ (ap (asks_in r.joints) (sym (same_is a b t)) ∙ none) in absurd (cc clash)
        by_test false t = refl

    by_place : (w : Direction) (a : End) → asks_in r.joints a ≡ false → (o : Option End) → places_of r e ≡ o → (with_held way o held s).in_place w a ≡ None
    by_place w a none None named = neat.places w a none
    by_place w a none (Some b) named =
        apart_so (same_way w way) (same_end a b) held (s.in_place w a) (differs a b none (asker_asks r e b named)) (neat.places w a none)

neat_puts : (r : Plan) (i : ℕ) (ts : List Token) (s : Tokens) → Neat r s → Neat r (with_puts r i ts s)
neat_puts r i [] s neat = neat
neat_puts r i (t ∷ ts) s neat =
    neat_puts r i ts (with_token r (end_of i t.slot) (way_of t.slot) (Some t.value) s) (neat_token r (end_of i t.slot) (way_of t.slot) (Some t.value) s neat)

neat_state : (r : Plan) (i : ℕ) (k : Part) → slice_get r.parts i ≡ Some k → (q : State) (s : Tokens) → Neat r s → Neat r (with_state i q s)
neat_state r i k there q s neat =
    record {
      places = neat.places;
      states = λ j none. ap (λ (b : Bool). (if b then q else s.state j).phase) (apart j none) ∙ neat.states j none;
    }
  where
    apart : (j : ℕ) → slice_get r.parts j ≡ None → nat_eq j i ≡ false
    apart j none = by_test (nat_eq j i) refl
      where
        by_test : (b : Bool) → nat_eq j i ≡ b → b ≡ false
        by_test true e =
            let same : j ≡ i = grind (arith, e) in
            let clash : None ≡ Some k = sym none ∙ (ap (λ n. slice_get r.parts n) same ∙ there) in absurd (cc clash)
        by_test false e = refl

pub neat_step : (r : Plan) (x : Element) (s w : Tokens) → Does r x s w → Neat r s → Neat r w
neat_step r (Fire i slot) s w (v, row, lies, by, leads) neat =
    let (k, there) = firing_part (slice_get r.parts i) (s.state i) slot row by in
    subst (Neat r) (sym leads)
    (neat_puts r i (row.puts v) (with_state i (row.next v) (with_token r (end_of i row.takes) (way_of row.takes) None s))
    (neat_state r i k there (row.next v) (with_token r (end_of i row.takes) (way_of row.takes) None s)
    (neat_token r (end_of i row.takes) (way_of row.takes) None s neat)))
neat_step r (Out e v) s w does neat =
    let (way, leads) = passes_out r e v s w does in subst (Neat r) (sym leads) (neat_token r e way None s neat)
neat_step r (In e v) s w does neat =
    let (way, leads) = passes_in r e v s w does in subst (Neat r) (sym leads) (neat_token r e way (Some v) s neat)

pub neat_first : (r : Plan) (s : Tokens) → IsIdle r s → Neat r s
neat_first r s rests = record { places = λ way a none. rests.0 way a; states = λ i none. rests.1 i }

-- a port at which a token lies stands in a joint
pub token_stands : (a : Plan) (i k : ℕ) (way : Direction) (v : ℕ) (s : Tokens) → token_at a s (ImportEnd i k) way ≡ Some v → StandsIn a (ImportEnd i k)
token_stands a i k way v s lies = by_place (places_of a (ImportEnd i k)) refl
  where
    by_place : (o : Option End) → places_of a (ImportEnd i k) ≡ o → StandsIn a (ImportEnd i k)
    by_place None none = absurd (nothing_there a (ImportEnd i k) way v s lies none)
    by_place (Some n) named =
        let there = found a.joints (ImportEnd i k) n named in (there.joint, listed a.joints there.joint there.is_in, there.stands)

-- a whole is idle where its places are empty and its parts are at rest
pub idle_by_parts : (r : Plan) (s : Tokens) → Neat r s
    → ((x y : End) → Contains r.joints (joint x y) → (way : Direction) → s.in_place way x ≡ None)
    → ((i : ℕ) (k : Part) → slice_get r.parts i ≡ Some k → (s.state i).phase ≡ Rest) → IsIdle r s
idle_by_parts r s neat empty at_rest = (places, λ i. by_slice i (slice_get r.parts i) refl)
  where
    places : (way : Direction) (a : End) → s.in_place way a ≡ None
    places way a = by_test (asks_in r.joints a) refl
      where
        by_test : (b : Bool) → asks_in r.joints a ≡ b → s.in_place way a ≡ None
        by_test false e = neat.places way a e
        by_test true e =
            let one = asks_one r.joints a e in
            ap (s.in_place way) one.asker ∙ empty one.joint.asking one.joint.serving (listed r.joints one.joint one.is_in) way

    by_slice : (i : ℕ) (o : Option Part) → slice_get r.parts i ≡ o → (s.state i).phase ≡ Rest
    by_slice i None e = neat.states i e
    by_slice i (Some k) e = at_rest i k e

module _ {Counted : End → Type 0} {d h w : ℕ} {f : Cut} {r p : Plan} (hung : IsHung Counted d h w f r p) where
  -- a region that is idle leaves its places empty and its parts at rest
  pub joint_empty : (s : Tokens) → IsIdle p (cut_tokens f p s) → (x y : End) → IsJointOf f p x y → (way : Direction) → s.in_place way x ≡ None
  joint_empty s rests x y (e, u, has, at, beyond) way =
      let asks = asks_there p.joints (joint e u) (contained p.joints (joint e u) has) in
      ap (s.in_place way) (sym at) ∙ (sym (ap (λ (b : Bool). if b then s.in_place way (lies_at f e) else None) asks) ∙ rests.0 way e)

  pub part_rests : (s : Tokens) → IsIdle p (cut_tokens f p s) → (i : ℕ) → IsPartOf f i → (s.state i).phase ≡ Rest
  part_rests s rests i (j, number) =
      let (at_part, (k, there)) = hung.cut.numbers i j number in
      let low = slice_get_within p.parts j k there in
      let within : nat_lt j (length p.parts) ≡ true = grind (arith, low) in
      ap (λ n. (s.state n).phase) (sym at_part)
      ∙ (sym (ap (λ (b : Bool). (if b then s.state (f.part j) else at Rest 0).phase) within) ∙ rests.1 j)

  -- what lies at a port of the region lies in the whole
  pub lies_there : (i k : ℕ) (way : Direction) (v : ℕ) (s : Tokens) → token_at p (cut_tokens f p s) (ImportEnd i k) way ≡ Some v
      → token_at r s (f.outer (ImportEnd i k)) way ≡ Some v
  lies_there i k way v s lies = sym (held_token hung (ImportEnd i k) (inl (token_stands p i k way v (cut_tokens f p s) lies)) s way) ∙ lies

  -- an output of the region at an import of the whole is one of the whole
  pub import_quiet : (i k v : ℕ) (s u : Tokens) → IsQuiet r s → (StandsIn p (ImportEnd i k) → (j : ℕ) × (f.outer (ImportEnd i k) ≡ ImportEnd j k))
      → Passes p (Out (ImportEnd i k) v) (contact_at p (ImportEnd i k)) (cut_tokens f p s) u → ⊥
  import_quiet i k v s u quiet leads passes =
      let (t, there) = there_contact p (Out (ImportEnd i k) v) (contact_at p (ImportEnd i k)) (cut_tokens f p s) u passes in
      let lies = (subst (λ (o : Option Contact). Passes p (Out (ImportEnd i k) v) o (cut_tokens f p s) u) there passes).0 in
      let stands = token_stands p i k (way_taken t.role) v (cut_tokens f p s) lies in
      let (j, at) = leads stands in
      let here = ap (λ (e : End). token_at r s e (way_taken t.role)) (sym at) ∙ lies_there i k (way_taken t.role) v s lies in
      let next = with_token r (ImportEnd j k) (way_taken t.role) None s in
      quiet.1 (ImportEnd j k) v next
      (tt, subst (λ (o : Option Contact). Passes r (Out (ImportEnd j k) v) o s next) (sym (import_contact hung i j k stands at ∙ there)) (here, refl))

  -- where the whole is quiet so is the region, if the part takes its answer, and its outputs at imports are taken
  pub region_quiet : IsDone p.outcome → (s : Tokens) → IsQuiet r s
      → ((v : ℕ) → token_at r s (PartEnd d h) Answer ≡ Some v → (u : Tokens) × Does r (Fire d (Ans h)) s u)
      → ((i k v : ℕ) (u : Tokens) → Passes p (Out (ImportEnd i k) v) (contact_at p (ImportEnd i k)) (cut_tokens f p s) u → ⊥)
      → IsQuiet p (cut_tokens f p s)
  region_quiet done s quiet answered imports = (no_fire, no_out)
    where
      no_fire : (j : ℕ) (t : Slot) (u : Tokens) → Does p (Fire j t) (cut_tokens f p s) u → ⊥
      no_fire j t u (v, row, lies, by, leads) =
          let (k, there) = firing_part (slice_get p.parts j) ((cut_tokens f p s).state j) t row by in
          quiet.0 (f.part j) t (fired r (f.part j) row v s) (
            v,
            row,
            sym (held_token hung (end_of j t) (inl (k, there)) s (way_of t)) ∙ lies,
            sym (firing_same hung j k there t s) ∙ by,
            refl,
          )

      at_result : (v : ℕ) (u : Tokens) → Passes p (Out (ResultEnd 0) v) (contact_at p (ResultEnd 0)) (cut_tokens f p s) u → ⊥
      at_result v u passes =
          let here = subst (λ (o : Option Contact). Passes p (Out (ResultEnd 0) v) o (cut_tokens f p s) u) hung.there passes in
          let lies : token_at r s (PartEnd d h) Answer ≡ Some v =
          ap (λ (e : End). token_at r s e Answer) (sym hung.result) ∙ (sym (held_token hung (ResultEnd 0) (result_held hung) s Answer) ∙ here.0) in
          let (next, does) = answered v lies in quiet.0 d (Ans h) next does

      no_out : (e : End) (v : ℕ) (u : Tokens) → Does p (Out e v) (cut_tokens f p s) u → ⊥
      no_out (PartEnd i k) v u (port, passes) = port
      no_out (ImportEnd i k) v u (port, passes) = imports i k v u passes
      no_out (ResultEnd k) v u (port, passes) =
          let none = first_shake p done k (Out (ResultEnd k) v) (cut_tokens f p s) u passes in
          at_result v u (subst (λ n. Passes p (Out (ResultEnd n) v) (contact_at p (ResultEnd n)) (cut_tokens f p s) u) none passes)

pub side_quiet : (d h : ℕ) (f : Cut) (r p : Plan) → IsSide d h f r p → IsHung IsResult d h 0 f r p → (s : Tokens) → IsQuiet r s
    → ((v : ℕ) → token_at r s (PartEnd d h) Answer ≡ Some v → (u : Tokens) × Does r (Fire d (Ans h)) s u) → IsQuiet p (cut_tokens f p s)
side_quiet d h f r p side hung s quiet answered =
    region_quiet hung (subst IsDone (sym side.outcome) tt) s quiet answered
    (λ i k v u passes. import_quiet hung i k v s u quiet (λ stands. let (j, leads, same) = side.imports i k stands in (j, leads)) passes)

module _ (d : ℕ) (f g : Cut) (r p q : Plan) (is : IsParallel d f g r p q) where
  pub whole_idle : (s : Tokens) → Neat r s → IsIdle p (cut_tokens f p s) → IsIdle q (cut_tokens g q s) → (s.state d).phase ≡ Rest
      → gate s Request ≡ None → gate s Answer ≡ None → IsIdle r s
  whole_idle s neat left right rest none empty =
      idle_by_parts r s neat (λ x y has way. by_joint way x y (is.joints x y has)) (λ i k there. by_part i (is.parts i k there))
    where
      by_joint : (way : Direction) (x y : End) → (IsJointOf f p x y ⊎ IsJointOf g q x y) ⊎ ((x ≡ ResultEnd 0) × (y ≡ PartEnd d 2)) → s.in_place way x ≡ None
      by_joint way x y (inl (inl one)) = joint_empty (hung_left d f g r p q is) s left x y one way
      by_joint way x y (inl (inr one)) = joint_empty (hung_right d f g r p q is) s right x y one way
      by_joint Request x y (inr (at, beyond)) = ap (s.in_place Request) at ∙ none
      by_joint Answer x y (inr (at, beyond)) = ap (s.in_place Answer) at ∙ empty

      by_part : (i : ℕ) → (IsPartOf f i ⊎ IsPartOf g i) ⊎ (i ≡ d) → (s.state i).phase ≡ Rest
      by_part i (inl (inl one)) = part_rests (hung_left d f g r p q is) s left i one
      by_part i (inl (inr one)) = part_rests (hung_right d f g r p q is) s right i one
      by_part i (inr same) = ap (λ n. (s.state n).phase) same ∙ rest
