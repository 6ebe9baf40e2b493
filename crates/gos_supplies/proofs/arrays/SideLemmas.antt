-- A region whose ports have names in the whole, as a side of it: what the whole does there the region does, and the other way round.
--
-- As CutLemmas of gos_joining, but an input at a port that stands in no joint is one of the region too: it does nothing.
use Rattle.std.specs.Prelude.{◌≡◌, ℕ, Bool, true, List, [], ◌∷◌, ◌++◌, length, Option, Some, None, All, slice_get, nat_lt, if◌then◌else◌}
use Rattle.std.proofs.Common.{refl, sym, ◌∙◌, ap, subst, arith}
use Rattle.std.proofs.lemmas.Option.{slice_get_within}
use Rattle.gos_types.specs.Events.{Direction, Answer}
use Rattle.gos_model.specs.Moves.{Act}
use Rattle.gos_plan.specs.Kinds.{Part, Contact}
use Rattle.gos_plan.specs.Firing.{Rest, State, Slot, Req, Ans, Token, Row, at}
use Rattle.gos_plan.specs.Plans.{End, PartEnd, Plan, contact_at}
use Rattle.gos_plan.specs.Tokens.{Tokens, Element, Fire, Out, In, IsPortEnd, Passes, places_of, with_held, token_at, with_token, end_of, way_of, way_taken, way_put, firing_of, fired, Does, Runs, IsQuiet}
use Rattle.gos_plan.specs.TokenBits.{LiteralFits, AllFit}
use Rattle.gos_plan.proofs.ElementLemmas.{firing_part}
use Rattle.gos_plan.proofs.HeldLemmas.{nothing_there}
use Rattle.gos_plan.proofs.JointLemmas.{found, listed}
use Rattle.gos_realises.specs.realises.Matched.{GoesOn}
use Rattle.gos_joining.specs.webs.Cutting.{Cut, StandsIn, IsCut, cut_tokens, out_if, in_if, ins_of, outside_firing, firing_in}
use Rattle.gos_joining.proofs.webs.CutLemmas.{port_own, port_lies, token_cut, element_is_cut}

-- the names of the region's ports in the whole
pub record HasNames (f : Cut) (r c : Plan) (name : End → Option End) : Type 0 where
  pub cut : IsCut f r c
  pub named : (b d : End) → f.inner b ≡ Some d → name b ≡ Some d
  pub outer : (b d : End) → name b ≡ Some d → (f.outer d ≡ b) × IsPortEnd d
  pub contact : (b d : End) → name b ≡ Some d → contact_at c d ≡ contact_at r b
  pub ports : (d : End) → IsPortEnd d → IsPortEnd (f.outer d)

-- an end with a token stands in a joint
pub token_stands : (c : Plan) (e : End) (way : Direction) (v : ℕ) (s : Tokens) → token_at c s e way ≡ Some v → StandsIn c e
token_stands c e way v s held = by_place (places_of c e) refl
  where
    by_place : (o : Option End) → places_of c e ≡ o → StandsIn c e
    by_place None none = absurd (nothing_there c e way v s held none)
    by_place (Some a) at = let f = found c.joints e a at in (f.joint, listed c.joints f.joint f.is_in, f.stands)

module _ (f : Cut) (r c : Plan) (name : End → Option End) (is : HasNames f r c name) where
  -- no end of a part is one
  no_part : (k h : ℕ) → f.inner (PartEnd k h) ≡ None
  no_part k h = by_inner (f.inner (PartEnd k h)) refl
    where
      by_inner : (o : Option End) → f.inner (PartEnd k h) ≡ o → o ≡ None
      by_inner None e = refl
      by_inner (Some d) e =
          let (port, stands, at) = is.cut.inners (PartEnd k h) d e in absurd (subst IsPortEnd at (is.ports d port))

  no_part_end : (k : ℕ) (t : Slot) → f.inner (end_of k t) ≡ None
  no_part_end k (Req h) = no_part k h
  no_part_end k (Ans h) = no_part k h

  no_ins : (k : ℕ) (ts : List Token) → ins_of f k ts ≡ []
  no_ins k [] = refl
  no_ins k (t ∷ ts) = ap (λ (o : Option End). in_if o t.value ++ ins_of f k ts) (no_part_end k t.slot) ∙ no_ins k ts

  no_outside : (k : ℕ) (t : Slot) (o : Option ℕ) (row : Option Row) → outside_firing f k t o row ≡ []
  no_outside k t None row = refl
  no_outside k t (Some v) None = refl
  no_outside k t (Some v) (Some row) = ap (λ (o : Option End). out_if o v ++ ins_of f k (row.puts v)) (no_part_end k t) ∙ no_ins k (row.puts v)

  -- a name without a joint is no port of the cut
  loose : (b d : End) → f.inner b ≡ None → name b ≡ Some d → places_of c d ≡ None
  loose b d none named = by_place (places_of c d) refl
    where
      by_place : (o : Option End) → places_of c d ≡ o → o ≡ None
      by_place None at = refl
      by_place (Some a) at =
          let (there, port) = is.outer b d named in
          let j = found c.joints d a at in
          let inner = (is.cut.ports d port (j.joint, listed c.joints j.joint j.is_in, j.stands)).1 in
          let clash : None ≡ Some d = sym none ∙ (ap f.inner (sym there) ∙ inner) in
          absurd (cc clash)

  module _ (literals : All LiteralFits r.parts) (s t : Tokens) (fit : AllFit r s) where
    abbrev To : List Element → Type 0
    To ys = Runs c ys (cut_tokens f c s) (cut_tokens f c t)

    -- a firing of the region's parts, and one outside
    pub fires_within : (k j : ℕ) (slot : Slot) → f.number k ≡ Some j → Does r (Fire k slot) s t → To (Fire j slot ∷ [])
    fires_within k j slot number does =
        subst (λ (o : Option ℕ). To (firing_in f k slot o (outside_firing f k slot (token_at r s (end_of k slot) (way_of slot)) (firing_of (slice_get r.parts k) (s.state k) slot)))) number
        (element_is_cut f r c (Fire k slot) s t is.cut literals fit does)

    pub fires_outside : (k : ℕ) (slot : Slot) → f.number k ≡ None → Does r (Fire k slot) s t → To []
    fires_outside k slot number does =
        subst To (no_outside k slot (token_at r s (end_of k slot) (way_of slot)) (firing_of (slice_get r.parts k) (s.state k) slot))
        (subst (λ (o : Option ℕ). To (firing_in f k slot o (outside_firing f k slot (token_at r s (end_of k slot) (way_of slot)) (firing_of (slice_get r.parts k) (s.state k) slot)))) number
        (element_is_cut f r c (Fire k slot) s t is.cut literals fit does))

    pub goes_out : (e : End) (v : ℕ) → f.inner e ≡ name e → Does r (Out e v) s t → To (out_if (name e) v)
    goes_out e v same does = subst (λ (o : Option End). To (out_if o v)) same (element_is_cut f r c (Out e v) s t is.cut literals fit does)

    pub comes_in : (e : End) (v : ℕ) → Does r (In e v) s t → To (in_if (name e) v)
    comes_in e v does = by_inner (f.inner e) (name e) refl refl (element_is_cut f r c (In e v) s t is.cut literals fit does)
      where
        at_loose : (d : End) → f.inner e ≡ None → name e ≡ Some d → cut_tokens f c t ≡ cut_tokens f c s → To (In d v ∷ [])
        at_loose d none named stays =
            (cut_tokens f c t, ((is.outer e d named).1, by_contact (contact_at r e) refl), refl)
          where
            by_contact : (o : Option Contact) → contact_at r e ≡ o → Passes c (In d v) (contact_at c d) (cut_tokens f c s) (cut_tokens f c t)
            by_contact None there = absurd (subst (λ (o : Option Contact). Passes r (In e v) o s t) there does.1)
            by_contact (Some k) there =
                let passes = subst (λ (o : Option Contact). Passes r (In e v) o s t) there does.1 in
                subst (λ (o : Option Contact). Passes c (In d v) o (cut_tokens f c s) (cut_tokens f c t)) (sym (is.contact e d named ∙ there))
                (passes.0, stays ∙ ap (λ (o : Option End). with_held (way_put k.role) o (Some v) (cut_tokens f c s)) (sym (loose e d none named)))

        by_inner : (o n : Option End) → f.inner e ≡ o → name e ≡ n → To (in_if (f.inner e) v) → To (in_if (name e) v)
        by_inner (Some d) n inner named to = subst (λ (z : Option End). To (in_if z v)) (inner ∙ sym (is.named e d inner)) to
        by_inner None None inner named to = subst (λ (z : Option End). To (in_if z v)) (inner ∙ sym named) to
        by_inner None (Some d) inner named to =
            subst (λ (z : Option End). To (in_if z v)) (sym named) (at_loose d inner named (subst (λ (z : Option End). To (in_if z v)) inner to))

  -- where the whole is quiet the region is
  pub part_at : (s : Tokens) (j : ℕ) (k : Part) → slice_get c.parts j ≡ Some k → (cut_tokens f c s).state j ≡ s.state (f.part j)
  part_at s j k there =
      let less = slice_get_within c.parts j k there in
      let within : nat_lt j (length c.parts) ≡ true = grind (arith, less) in ap (λ (b : Bool). if b then s.state (f.part j) else at Rest 0) within

  -- what a firing goes on with there it goes on with in the whole
  pub goes_on_within : (k j : ℕ) (slot : Slot) (s : Tokens) (acts : List Act) → f.number k ≡ Some j → GoesOn c (cut_tokens f c s) (Fire j slot) acts
      → GoesOn r s (Fire k slot) acts
  goes_on_within k j (Req h) s acts number goes = tt
  goes_on_within k j (Ans h) s acts number goes =
      let (at, (z, there)) = is.cut.numbers k j number in
      let whole : slice_get r.parts k ≡ Some z = ap (slice_get r.parts) (sym at) ∙ (is.cut.parts j z there).0 in
      λ v row held by asks. goes v row
      (token_cut f r c is.cut (PartEnd j h) (z, there) s Answer ∙ (ap (λ (n : ℕ). token_at r s (PartEnd n h) Answer) at ∙ held))
      (ap (λ (o : Option Part). firing_of o ((cut_tokens f c s).state j) (Ans h)) (there ∙ sym whole)
      ∙ (ap (λ (q : State). firing_of (slice_get r.parts k) q (Ans h)) (part_at s j z there ∙ ap s.state at) ∙ by))
      asks

  pub fires_in_whole : (s u : Tokens) (j : ℕ) (slot : Slot) → Does c (Fire j slot) (cut_tokens f c s) u → (t : Tokens) × Does r (Fire (f.part j) slot) s t
  fires_in_whole s u j slot (v, row, held, by, leads) =
      let (k, there) = firing_part (slice_get c.parts j) ((cut_tokens f c s).state j) slot row by in (
        fired r (f.part j) row v s,
        (
          v,
          row,
          sym (token_cut f r c is.cut (end_of j slot) (k, there) s (way_of slot)) ∙ held,
          ap (λ (o : Option Part). firing_of o (s.state (f.part j)) slot) ((is.cut.parts j k there).0 ∙ sym there)
              ∙ (ap (λ (q : State). firing_of (slice_get c.parts j) q slot) (sym (part_at s j k there)) ∙ by),
          refl,
        ),
      )

  pub puts_in_whole : (s u : Tokens) (e : End) (v : ℕ) → Does c (Out e v) (cut_tokens f c s) u → (t : Tokens) × Does r (Out (f.outer e) v) s t
  puts_in_whole s u e v (port, passes) = by_contact (contact_at c e) refl
    where
      by_contact : (o : Option Contact) → contact_at c e ≡ o → (t : Tokens) × Does r (Out (f.outer e) v) s t
      by_contact None there = absurd (subst (λ (o : Option Contact). Passes c (Out e v) o (cut_tokens f c s) u) there passes)
      by_contact (Some k) there =
          let here = subst (λ (o : Option Contact). Passes c (Out e v) o (cut_tokens f c s) u) there passes in
          let stands = token_stands c e (way_taken k.role) v (cut_tokens f c s) here.0 in
          let held = sym (token_cut f r c is.cut e (port_own c e port stands) s (way_taken k.role)) ∙ here.0 in (
            with_token r (f.outer e) (way_taken k.role) None s,
            (
              is.ports e port,
              subst (λ (o : Option Contact). Passes r (Out (f.outer e) v) o s (with_token r (f.outer e) (way_taken k.role) None s)) (sym (is.cut.contacts e port stands ∙ there))
                  (subst (λ (d : End). token_at r s d (way_taken k.role) ≡ Some v) (port_lies f e port) held, refl),
            ),
          )

  pub quiet_within : (s : Tokens) → IsQuiet r s → IsQuiet c (cut_tokens f c s)
  quiet_within s quiet = (
    λ j slot u does. (let (t, there) = fires_in_whole s u j slot does in quiet.0 (f.part j) slot t there),
    λ e v u does. (let (t, there) = puts_in_whole s u e v does in quiet.1 (f.outer e) v t there),
  )
