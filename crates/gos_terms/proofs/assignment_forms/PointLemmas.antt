-- The ties of a term whose handshakes lead elsewhere: each of their dots is within the term's range, or where a handshake leads.
use Rattle.std.specs.Prelude.{length, Contains}
use Rattle.std.proofs.Common.{◌≡◌, ℕ, List, sym, ◌∙◌, ap, subst}
use Rattle.gos_check.specs.Nodes.{Numbered}
use Rattle.gos_ties.specs.declared.points.Place.{Place}
use Rattle.gos_ties.specs.declared.points.Place.TheVariants as places
use Rattle.gos_ties.specs.declared.points.Point.{Point}
use Rattle.gos_ties.specs.declared.points.Tie as point_ties
use Rattle.gos_joining.specs.webs.Webs.{Dot, Within, Tie, tie, Way}
use Rattle.gos_joining.specs.unions.Unions.{within}
use Rattle.gos_joining.proofs.unions.UnionLemmas.{of_image, in_image}
use Rattle.gos_compile.specs.Wiring.{Types, row, ties_of}
use Rattle.gos_terms.specs.wired.Wired.{dot_of_place, dot_of, dot_ties}
use Rattle.gos_terms.specs.stages.Leading.{dot_leading}
use Rattle.gos_terms.specs.stages.Ranges.{IsWithin}
use Rattle.gos_terms.proofs.stages.FollowLemmas.{dots_lead}
use Rattle.gos_terms.proofs.stages.RangeLemmas.{ties_stay_within}
use Rattle.gos_terms.proofs.stages.ChildTieLemmas.{dot_tie, put_in}
use Rattle.gos_terms.proofs.stages.WayLemmas.{way_by_tie}

module _ (types : Types) (i j : ℕ) (m : Numbered) (out : List Point) where
  abbrev plain : List point_ties.Tie
  plain = ties_of types i j m (row places.Result 0 (length out))

  abbrev leads : Dot → Dot
  leads = dot_leading out

  abbrev led : Tie → Tie
  led t = tie (leads t.one) (leads t.other)

  abbrev pub led_ties : List Tie
  led_ties = within 0 (dot_ties (ties_of types i j m out))

  abbrev pub lying : Place → ℕ → Dot
  lying p h = Within 0 (dot_leading out (dot_of_place p h))

  pub record Told (t : Tie) : Type 0 where
    pub from : point_ties.Tie
    pub listed : Contains (ties_of types i j m (row places.Result 0 (length out))) from
    pub one : IsWithin types i j m (length out) from.one.place from.one.shake
    pub other : IsWithin types i j m (length out) from.other.place from.other.shake
    pub same : tie (lying from.one.place from.one.shake) (lying from.other.place from.other.shake) ≡ t

  pub told_tie : (t : Tie) → Contains led_ties t → Told t
  told_tie t has =
      let (v, there, at_v) = of_image (put_in 0) (dot_ties (ties_of types i j m out)) t has in
      let (x, listed, at_x) = of_image led (dot_ties plain) v (subst (λ (vs : List Tie). Contains vs v) (dots_lead types i j m out) there) in
      let (u, known, at_u) = of_image dot_tie plain x listed in
      let (one, other) = ties_stay_within types i j m (length out) u known in
      record {
        from = u;
        listed = known;
        one = one;
        other = other;
        same = ap (λ (x : Tie). tie (Within 0 (leads x.one)) (Within 0 (leads x.other))) at_u ∙ (ap (put_in 0) at_x ∙ at_v);
      }

  pub tie_there : (u : point_ties.Tie) → Contains (ties_of types i j m (row places.Result 0 (length out))) u
      → Contains led_ties (tie (lying u.one.place u.one.shake) (lying u.other.place u.other.shake))
  tie_there u has =
      in_image (put_in 0) (dot_ties (ties_of types i j m out)) (tie (leads (dot_of u.one)) (leads (dot_of u.other)))
      (subst (λ (vs : List Tie). Contains vs (tie (leads (dot_of u.one)) (leads (dot_of u.other)))) (sym (dots_lead types i j m out))
      (in_image led (dot_ties plain) (dot_tie u) (in_image dot_tie plain u has)))

-- Led elsewhere, they are ways of what has these others.
module _ (move : Dot → Dot) (types : Types) (i j : ℕ) (m : Numbered) (out away : List Point) (long : length away ≡ length out)
    (moves : (p : Place) (h : ℕ) → IsWithin types i j m (length out) p h → move (lying types i j m out p h) ≡ lying types i j m away p h)
    (us : List Tie) (has : (t : Tie) → Contains (led_ties types i j m away) t → Contains us t) where
  pub moved_tie : (t : Tie) → Contains (led_ties types i j m out) t → Way us (move t.one) (move t.other)
  moved_tie t listed =
      let it = told_tie types i j m out t listed in
      let u = it.from in
      let there : Contains us (tie (lying types i j m away it.from.one.place it.from.one.shake) (lying types i j m away it.from.other.place it.from.other.shake)) =
      has (tie (lying types i j m away it.from.one.place it.from.one.shake) (lying types i j m away it.from.other.place it.from.other.shake))
      (tie_there types i j m away it.from (subst (λ (n : ℕ). Contains (ties_of types i j m (row places.Result 0 n)) it.from) (sym long) it.listed))
      in
      subst (λ (x : Tie). Way us (move x.one) (move x.other)) it.same
      (subst (λ (d : Dot). Way us d (move (lying types i j m out it.from.other.place it.from.other.shake))) (sym (moves it.from.one.place it.from.one.shake it.one))
      (subst (λ (d : Dot). Way us (lying types i j m away it.from.one.place it.from.one.shake) d) (sym (moves it.from.other.place it.from.other.shake it.other))
      (way_by_tie us (lying types i j m away it.from.one.place it.from.one.shake) (lying types i j m away it.from.other.place it.from.other.shake) there)))
