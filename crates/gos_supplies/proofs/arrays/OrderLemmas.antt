-- A side's element comes in order in the whole where it does in the side: what is open of the side's handshakes is so in the whole.
use Rattle.std.specs.Prelude.{◌≡◌, ℕ, Bool, true, false, List, [], ◌∷◌, Option, Some, None, slice_get, if◌then◌else◌}
use Rattle.std.proofs.Common.{refl, sym, ◌∙◌, ap, subst, inl, inr}
use Rattle.gos_types.specs.Events.{Direction, Request, Answer}
use Rattle.gos_plan.specs.Kinds.{Part, Contact, asks}
use Rattle.gos_plan.specs.Firing.{Slot, Req, Ans, Token, Row}
use Rattle.gos_plan.specs.Plans.{End, PartEnd, ImportEnd, ResultEnd, Plan, contact_at}
use Rattle.gos_plan.specs.Tokens.{Tokens, IsPortEnd, places_of, held_at, token_at, with_token, with_state, end_of, way_of}
use Rattle.gos_plan.specs.Orderly.{Open, named_by, handshake_at, with_open, after_taken, after_put, after_puts, ComesWell, AllComeWell}
use Rattle.gos_plan.proofs.ContactLemmas.{part_is_there}
use Rattle.gos_plan.proofs.JointLemmas.{found, fits}
use Rattle.gos_realises.proofs.joined.ReachLemmas.{told_end}
use Rattle.gos_joining.specs.webs.Cutting.{Cut, lies_at, IsCut, cut_tokens}
use Rattle.gos_joining.proofs.webs.CutLemmas.{place_there, no_place, asker_asks, token_put, state_put}
use Rattle.gos_supplies.proofs.turns.StandLemmas.{opened_here, opened_apart}

-- an end of a part that there is, or a port with a handshake
abbrev pub There : Plan → End → Type 0
There c (PartEnd i h) = (k : Part) × (slice_get c.parts i ≡ Some k)
There c (ImportEnd i h) = (k : Contact) × (contact_at c (ImportEnd i h) ≡ Some k)
There c (ResultEnd h) = (k : Contact) × (contact_at c (ResultEnd h) ≡ Some k)

pub contact_there : (c : Plan) (e : End) (k : Contact) → contact_at c e ≡ Some k → There c e
contact_there c (PartEnd i h) k at = part_is_there (slice_get c.parts i) h k at
contact_there c (ImportEnd i h) k at = (k, at)
contact_there c (ResultEnd h) k at = (k, at)

-- The region is a side of the whole: its ends are apart there, and a port without a joint has none there.
pub record IsSideOf (f : Cut) (r c : Plan) : Type 0 where
  pub cut : IsCut f r c
  pub one : (d e : End) → There c d → There c e → lies_at f d ≡ lies_at f e → d ≡ e
  pub unjoined : (e : End) → IsPortEnd e → There c e → places_of c e ≡ None → places_of r (lies_at f e) ≡ None

module _ (f : Cut) (r c : Plan) (is : IsSideOf f r c) where
  pub none_there : (e : End) → There c e → places_of c e ≡ None → places_of r (lies_at f e) ≡ None
  none_there (PartEnd i h) there none = no_place f r c is.cut (PartEnd i h) there none
  none_there (ImportEnd i h) there none = is.unjoined (ImportEnd i h) tt there none
  none_there (ResultEnd h) there none = is.unjoined (ResultEnd h) tt there none

  -- the name of a handshake
  pub handshake_same : (e : End) → There c e → handshake_at r (lies_at f e) ≡ lies_at f (handshake_at c e)
  handshake_same e there = by_place (places_of c e) refl
    where
      by_place : (o : Option End) → places_of c e ≡ o → handshake_at r (lies_at f e) ≡ lies_at f (handshake_at c e)
      by_place None none =
          ap (λ (o : Option End). named_by o (lies_at f e)) (none_there e there none) ∙ sym (ap (λ (o : Option End). lies_at f (named_by o e)) none)
      by_place (Some a) at =
          ap (λ (o : Option End). named_by o (lies_at f e)) (place_there f r c is.cut e a at) ∙ sym (ap (λ (o : Option End). lies_at f (named_by o e)) at)

  pub handshake_there : (e : End) → There c e → There c (handshake_at c e)
  handshake_there e there = by_place (places_of c e) refl
    where
      by_place : (o : Option End) → places_of c e ≡ o → There c (named_by o e)
      by_place None none = there
      by_place (Some a) at =
          let j = found c.joints e a at in
          let (q, v, asking, serving) = fits c [] c.joints j.joint is.cut.right j.is_in in
          subst (There c) j.named (contact_there c j.joint.asking (asks q v) asking)

  pub token_same : (e : End) → There c e → (s : Tokens) (way : Direction) → token_at c (cut_tokens f c s) e way ≡ None → token_at r s (lies_at f e) way ≡ None
  token_same e there s way none = by_place (places_of c e) refl
    where
      by_place : (o : Option End) → places_of c e ≡ o → token_at r s (lies_at f e) way ≡ None
      by_place None loose = ap (held_at s way) (none_there e there loose)
      by_place (Some a) at =
          ap (held_at s way) (place_there f r c is.cut e a at)
          ∙ (sym (ap (λ (b : Bool). if b then s.in_place way (lies_at f a) else None) (asker_asks c e a at))
          ∙ (sym (ap (held_at (cut_tokens f c s) way) at) ∙ none))

  -- the open handshakes of the side
  abbrev pub Agrees : Open → Open → Type 0
  Agrees o u = (e : End) → There c e → o (lies_at f e) ≡ u e

  opens_same : (a : End) (b : Bool) (o u : Open) → There c a → Agrees o u → Agrees (with_open (lies_at f a) b o) (with_open a b u)
  opens_same a b o u there same e at =
      elim (told_end e a) [
        | inl is_a ↦ opened_here (lies_at f a) (lies_at f e) b o (ap (lies_at f) (sym is_a)) ∙ sym (opened_here a e b u (sym is_a))
        | inr apart ↦ opened_apart (lies_at f a) (lies_at f e) b o (λ one. apart (is.one e a at there one)) ∙ (same e at ∙ sym (opened_apart a e b u apart))
      ]

  named_same : (e : End) (b : Bool) (o u : Open) → There c e → Agrees o u → Agrees (with_open (handshake_at r (lies_at f e)) b o) (with_open (handshake_at c e) b u)
  named_same e b o u there same =
      subst (λ (a : End). Agrees (with_open a b o) (with_open (handshake_at c e) b u)) (sym (handshake_same e there))
      (opens_same (handshake_at c e) b o u (handshake_there e there) same)

  pub taken_same : (e : End) (way : Direction) (o u : Open) → There c e → Agrees o u → Agrees (after_taken r (lies_at f e) way o) (after_taken c e way u)
  taken_same e Request o u there same = same
  taken_same e Answer o u there same = named_same e false o u there same

  pub put_same : (e : End) (way : Direction) (o u : Open) → There c e → Agrees o u → Agrees (after_put r (lies_at f e) way o) (after_put c e way u)
  put_same e Request o u there same = named_same e true o u there same
  put_same e Answer o u there same = same

  pub comes_well : (e : End) (way : Direction) (o u : Open) (s : Tokens) → There c e → Agrees o u
      → ComesWell c e way u (cut_tokens f c s) → ComesWell r (lies_at f e) way o s
  comes_well e Request o u s there same well =
      ap o (handshake_same e there) ∙ (same (handshake_at c e) (handshake_there e there) ∙ well)
  comes_well e Answer o u s there same (opened, empty) = (
    ap o (handshake_same e there) ∙ (same (handshake_at c e) (handshake_there e there) ∙ opened),
    λ way. token_same e there s way (empty way),
  )

  -- the tokens that a part puts
  module _ (k j : ℕ) (z : Part) (there : slice_get c.parts j ≡ Some z) (part : f.part j ≡ k) where
    end_same : (t : Slot) → lies_at f (end_of j t) ≡ end_of k t
    end_same (Req h) = ap (λ (n : ℕ). PartEnd n h) part
    end_same (Ans h) = ap (λ (n : ℕ). PartEnd n h) part

    end_there : (t : Slot) → There c (end_of j t)
    end_there (Req h) = (z, there)
    end_there (Ans h) = (z, there)

    token_put_there : (t : Slot) (way : Direction) (held : Option ℕ) (s : Tokens)
        → with_token c (end_of j t) way held (cut_tokens f c s) ≡ cut_tokens f c (with_token r (end_of k t) way held s)
    token_put_there (Req h) way held s =
        token_put f r c is.cut (PartEnd j h) (z, there) way held s ∙ ap (λ (n : ℕ). cut_tokens f c (with_token r (PartEnd n h) way held s)) part
    token_put_there (Ans h) way held s =
        token_put f r c is.cut (PartEnd j h) (z, there) way held s ∙ ap (λ (n : ℕ). cut_tokens f c (with_token r (PartEnd n h) way held s)) part

    pub puts_well : (ts : List Token) (o u : Open) (s : Tokens) → Agrees o u
        → AllComeWell c j ts u (cut_tokens f c s) → AllComeWell r k ts o s × Agrees (after_puts r k ts o) (after_puts c j ts u)
    puts_well [] o u s same well = (tt, same)
    puts_well (t ∷ ts) o u s same (first, rest) =
        let end = end_same t.slot in
        let now : Agrees (after_put r (end_of k t.slot) (way_of t.slot) o) (after_put c (end_of j t.slot) (way_of t.slot) u) =
        subst (λ (d : End). Agrees (after_put r d (way_of t.slot) o) (after_put c (end_of j t.slot) (way_of t.slot) u)) end
        (put_same (end_of j t.slot) (way_of t.slot) o u (end_there t.slot) same)
        in
        let later = puts_well ts (after_put r (end_of k t.slot) (way_of t.slot) o) (after_put c (end_of j t.slot) (way_of t.slot) u)
        (with_token r (end_of k t.slot) (way_of t.slot) (Some t.value) s) now
        (subst (AllComeWell c j ts (after_put c (end_of j t.slot) (way_of t.slot) u)) (token_put_there t.slot (way_of t.slot) (Some t.value) s) rest)
        in (
          (
            subst (λ (d : End). ComesWell r d (way_of t.slot) o s) end (comes_well (end_of j t.slot) (way_of t.slot) o u s (end_there t.slot) same first),
            later.0,
          ),
          later.1,
        )

    -- a firing
    pub fires_well : (slot : Slot) (row : Row) (v : ℕ) (o u : Open) (s : Tokens) → Agrees o u
        → AllComeWell c j (row.puts v) (after_taken c (end_of j slot) (way_of slot) u)
        (with_state j (row.next v) (with_token c (end_of j row.takes) (way_of row.takes) None (cut_tokens f c s)))
        → AllComeWell r k (row.puts v) (after_taken r (end_of k slot) (way_of slot) o)
        (with_state k (row.next v) (with_token r (end_of k row.takes) (way_of row.takes) None s))
        × Agrees (after_puts r k (row.puts v) (after_taken r (end_of k slot) (way_of slot) o))
        (after_puts c j (row.puts v) (after_taken c (end_of j slot) (way_of slot) u))
    fires_well slot row v o u s same well =
        puts_well (row.puts v) (after_taken r (end_of k slot) (way_of slot) o) (after_taken c (end_of j slot) (way_of slot) u)
        (with_state k (row.next v) (with_token r (end_of k row.takes) (way_of row.takes) None s))
        (subst (λ (d : End). Agrees (after_taken r d (way_of slot) o) (after_taken c (end_of j slot) (way_of slot) u)) (end_same slot)
        (taken_same (end_of j slot) (way_of slot) o u (end_there slot) same))
        (subst (AllComeWell c j (row.puts v) (after_taken c (end_of j slot) (way_of slot) u)) so well)
      where
        so : with_state j (row.next v) (with_token c (end_of j row.takes) (way_of row.takes) None (cut_tokens f c s))
            ≡ cut_tokens f c (with_state k (row.next v) (with_token r (end_of k row.takes) (way_of row.takes) None s))
        so =
            ap (with_state j (row.next v)) (token_put_there row.takes (way_of row.takes) None s)
            ∙ (state_put f r c is.cut j z there (row.next v) (with_token r (end_of k row.takes) (way_of row.takes) None s)
            ∙ ap (λ (n : ℕ). cut_tokens f c (with_state n (row.next v) (with_token r (end_of k row.takes) (way_of row.takes) None s))) part)

-- What one side opens and closes leaves the handshakes of another as they are.
module _ (f g : Cut) (r p q : Plan) (is : IsSideOf f r p) (apart : (d e : End) → There p d → There q e → lies_at f d ≡ lies_at g e → ⊥) where
  abbrev pub Others : Open → Open → Type 0
  Others o u = (e : End) → There q e → o (lies_at g e) ≡ u e

  named_other : (d : End) (b : Bool) (o u : Open) → There p d → Others o u → Others (with_open (handshake_at r (lies_at f d)) b o) u
  named_other d b o u there same e at =
      subst (λ (a : End). with_open a b o (lies_at g e) ≡ u e) (sym (handshake_same f r p is d there))
      (opened_apart (lies_at f (handshake_at p d)) (lies_at g e) b o (λ one. apart (handshake_at p d) e (handshake_there f r p is d there) at (sym one)) ∙ same e at)

  pub taken_other : (d : End) (way : Direction) (o u : Open) → There p d → Others o u → Others (after_taken r (lies_at f d) way o) u
  taken_other d Request o u there same = same
  taken_other d Answer o u there same = named_other d false o u there same

  pub put_other : (d : End) (way : Direction) (o u : Open) → There p d → Others o u → Others (after_put r (lies_at f d) way o) u
  put_other d Request o u there same = named_other d true o u there same
  put_other d Answer o u there same = same

  module _ (k j : ℕ) (z : Part) (there : slice_get p.parts j ≡ Some z) (part : f.part j ≡ k) where
    pub puts_other : (ts : List Token) (o u : Open) → Others o u → Others (after_puts r k ts o) u
    puts_other [] o u same = same
    puts_other (t ∷ ts) o u same =
        puts_other ts (after_put r (end_of k t.slot) (way_of t.slot) o) u
        (subst (λ (d : End). Others (after_put r d (way_of t.slot) o) u) (end_same f r p is k j z there part t.slot)
        (put_other (end_of j t.slot) (way_of t.slot) o u (end_there f r p is k j z there part t.slot) same))

    pub fires_other : (slot : Slot) (ts : List Token) (o u : Open) → Others o u → Others (after_puts r k ts (after_taken r (end_of k slot) (way_of slot) o)) u
    fires_other slot ts o u same =
        puts_other ts (after_taken r (end_of k slot) (way_of slot) o) u
        (subst (λ (d : End). Others (after_taken r d (way_of slot) o) u) (end_same f r p is k j z there part slot)
        (taken_other (end_of j slot) (way_of slot) o u (end_there f r p is k j z there part slot) same))
