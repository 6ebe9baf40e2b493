-- Where an element of one side comes in order there it does in the whole, and the handshakes of the other side stay as they are.
use Rattle.std.specs.Prelude.{◌≡◌, ℕ, Option, Some, slice_get}
use Rattle.std.proofs.Common.{sym, ◌∙◌, ap, subst}
use Rattle.std.proofs.lemmas.Option.{same_Some}
use Rattle.gos_plan.specs.Kinds.{Part, Contact}
use Rattle.gos_plan.specs.Firing.{State, Slot}
use Rattle.gos_plan.specs.Plans.{End, PartEnd, Plan, contact_at}
use Rattle.gos_plan.specs.Tokens.{Tokens, Element, Fire, Out, In, token_at, end_of, way_of, way_taken, way_put, shake_of, firing_of, Does}
use Rattle.gos_plan.specs.Orderly.{Open, after_taken, after_put, after_puts, ComesWell, ComesInOrder}
use Rattle.gos_joining.specs.webs.Cutting.{Cut, lies_at, cut_tokens}
use Rattle.gos_joining.proofs.webs.CutLemmas.{token_cut}
use Rattle.gos_supplies.proofs.arrays.SideLemmas.{HasNames, part_at}
use Rattle.gos_supplies.proofs.arrays.OrderLemmas.{There, contact_there, IsSideOf, Agrees, comes_well, taken_same, put_same, fires_well, taken_other, put_other, fires_other, Others}

module _
    (f g : Cut) (r p q : Plan) (name : End → Option End) (names : HasNames f r p name) (is : IsSideOf f r p)
    (apart : (d e : End) → There p d → There q e → lies_at f d ≡ lies_at g e → ⊥) where
  -- what is open after it
  pub record Comes (y : Element) (s : Tokens) (o u v : Open) : Type 0 where
    pub open_then : Open
    pub comes : ComesInOrder r y s o open_then
    pub agrees : Agrees f r p is open_then u
    pub others : Others f g r p q is apart open_then v

  pub out_comes : (b d : End) (n : ℕ) (k : Contact) (s : Tokens) (o u v z : Open)
      → lies_at f d ≡ b → contact_at r b ≡ Some k → contact_at p d ≡ Some k → Agrees f r p is o u → Others f g r p q is apart o v
      → ComesInOrder p (Out d n) (cut_tokens f p s) u z → Comes (Out b n) s o z v
  out_comes b d n k s o u v z at there own agrees others comes =
      record {
        open_then = after_taken r b (way_taken k.role) o;
        comes = λ c also. ap (λ (x : Contact). after_taken r b (way_taken x.role) o) (same_Some k c (sym there ∙ also));
        agrees =
            subst (λ (x : Open). Agrees f r p is (after_taken r b (way_taken k.role) o) x) (sym (comes k own))
            (subst (λ (x : End). Agrees f r p is (after_taken r x (way_taken k.role) o) (after_taken p d (way_taken k.role) u)) at
            (taken_same f r p is d (way_taken k.role) o u (contact_there p d k own) agrees));
        others =
            subst (λ (x : End). Others f g r p q is apart (after_taken r x (way_taken k.role) o) v) at
            (taken_other f g r p q is apart d (way_taken k.role) o v (contact_there p d k own) others);
      }

  pub in_comes : (b d : End) (n : ℕ) (k : Contact) (s : Tokens) (o u v z : Open)
      → lies_at f d ≡ b → contact_at r b ≡ Some k → contact_at p d ≡ Some k → Agrees f r p is o u → Others f g r p q is apart o v
      → ComesInOrder p (In d n) (cut_tokens f p s) u z → Comes (In b n) s o z v
  in_comes b d n k s o u v z at there own agrees others comes =
      record {
        open_then = after_put r b (way_put k.role) o;
        comes = λ c also. (let same : k ≡ c = same_Some k c (sym there ∙ also) in (
          subst (λ (x : Contact). ComesWell r b (way_put x.role) o s) same
              (subst (λ (x : End). ComesWell r x (way_put k.role) o s) at (comes_well f r p is d (way_put k.role) o u s (contact_there p d k own) agrees (comes k own).0)),
          ap (λ (x : Contact). after_put r b (way_put x.role) o) same,
        ));
        agrees =
            subst (λ (x : Open). Agrees f r p is (after_put r b (way_put k.role) o) x) (sym (comes k own).1)
            (subst (λ (x : End). Agrees f r p is (after_put r x (way_put k.role) o) (after_put p d (way_put k.role) u)) at
            (put_same f r p is d (way_put k.role) o u (contact_there p d k own) agrees));
        others =
            subst (λ (x : End). Others f g r p q is apart (after_put r x (way_put k.role) o) v) at
            (put_other f g r p q is apart d (way_put k.role) o v (contact_there p d k own) others);
      }

  -- a firing
  module _ (k j : ℕ) (slot : Slot) (number : f.number k ≡ Some j) (s : Tokens) where
    part : f.part j ≡ k
    part = (is.cut.numbers k j number).0

    abbrev kind : Part
    kind = (is.cut.numbers k j number).1.0

    there : slice_get p.parts j ≡ Some kind
    there = (is.cut.numbers k j number).1.1

    whole_there : slice_get r.parts k ≡ Some kind
    whole_there = ap (slice_get r.parts) (sym part) ∙ (is.cut.parts j kind there).0

    pub token_of : (t : Tokens) (v : ℕ) → token_at r t (end_of k slot) (way_of slot) ≡ Some v → token_at p (cut_tokens f p t) (end_of j slot) (way_of slot) ≡ Some v
    token_of t v held =
        token_cut f r p is.cut (end_of j slot) (kind, there) t (way_of slot) ∙ (ap (λ (n : ℕ). token_at r t (PartEnd n (shake_of slot)) (way_of slot)) part ∙ held)

    pub firing_same : (t : Tokens) → firing_of (slice_get p.parts j) ((cut_tokens f p t).state j) slot ≡ firing_of (slice_get r.parts k) (t.state k) slot
    firing_same t =
        ap (λ (o : Option Part). firing_of o ((cut_tokens f p t).state j) slot) (there ∙ sym whole_there)
        ∙ ap (λ (q : State). firing_of (slice_get r.parts k) q slot) (part_at f r p name names t j kind there ∙ ap t.state part)

    pub fire_comes : (t : Tokens) (o u v z : Open) → Does r (Fire k slot) s t → Agrees f r p is o u → Others f g r p q is apart o v
        → ComesInOrder p (Fire j slot) (cut_tokens f p s) u z → Comes (Fire k slot) s o z v
    fire_comes t o u v z (n, row, held, by, leads) agrees others comes =
        record {
          open_then = after_puts r k (row.puts n) (after_taken r (end_of k slot) (way_of slot) o);
          comes = λ m line also fires. (let one = comes m line (token_of s m also) (firing_same s ∙ fires) in
              let all = fires_well f r p is k j kind there part slot line m o u s agrees one.0 in
              let numbers : n ≡ m = same_Some n m (sym held ∙ also) in
              let rows : row ≡ line = same_Some row line (sym by ∙ fires) in
              (all.0, λ l. after_puts r k ((rows l).puts (numbers l)) (after_taken r (end_of k slot) (way_of slot) o)));
          agrees = (let one = comes n row (token_of s n held) (firing_same s ∙ by) in
              subst (λ (x : Open). Agrees f r p is (after_puts r k (row.puts n) (after_taken r (end_of k slot) (way_of slot) o)) x) (sym one.1)
              (fires_well f r p is k j kind there part slot row n o u s agrees one.0).1);
          others = fires_other f g r p q is apart k j kind there part slot (row.puts n) o v others;
        }
