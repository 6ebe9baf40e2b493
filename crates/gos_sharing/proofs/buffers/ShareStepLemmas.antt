-- The Share's own firing in a buffer: it comes in order, and the plan without the Share stands still.
use Rattle.std.specs.Prelude.{◌⊎◌, ◌+◌, ◌*◌, ◌<◌, ◌≤◌, None, slice_get}
use Rattle.std.proofs.Common.{◌≡◌, ℕ, Bool, true, false, List, [], ◌∷◌, Option, Some, inl, inr, refl, sym, ◌∙◌, ap, subst, arith, if◌then◌else◌}
use Rattle.gos_types.specs.Types.{Type'}
use Rattle.gos_types.specs.Events.{Direction, Request, Answer}
use Rattle.gos_realises.specs.realises.Regular.{count}
use Rattle.gos_plan.specs.Kinds.{Share}
use Rattle.gos_plan.specs.Plans.{End, PartEnd, Plan, same_end}
use Rattle.gos_plan.specs.Firing.{State, Slot, Req, Ans, Token, put, Row}
use Rattle.gos_plan.specs.Tokens.{Tokens, Fire, places_of, held_at, with_held, token_at, end_of, way_of, with_token, with_state, firing_of, shake_of, Does}
use Rattle.gos_plan.specs.Orderly.{Open, named_by, handshake_at, with_open, after_taken, ComesWell, AllComeWell, after_puts, ComesInOrder}
use Rattle.gos_plan.proofs.JointLemmas.{IsIn, same_itself, same_is, contained, found, stands_there}
use Rattle.gos_joining.specs.webs.Webs.{joint}
use Rattle.gos_joining.specs.webs.Cutting.{asks_in, StandsIn}
use Rattle.gos_sharing.specs.sharing.Sharing.{source_end, caller_end, IsOfPart, IsSeenThrough, passed_on, IsForCaller, seen_tokens}
use Rattle.gos_sharing.proofs.sharing.SeenPlaceLemmas.{asks_so, to_source}
use Rattle.gos_sharing.proofs.sharing.SeenTokenLemmas.{next, asking_at, outside_at, of_part, place_serving}
use Rattle.gos_sharing.proofs.sharing.ShareRowLemmas.{Pair, Passed, IsRequestPassed, IsAnswerPassed, same_branch, pair_through, into_pair, served_there, asked_there, differ, share_passes, share_seen}
use Rattle.gos_sharing.proofs.sharing.SeenKeptLemmas.{Kept, fit_none, both_none, all_clear, not_both_so, stays_empty}
use Rattle.gos_sharing.proofs.sharing.SeenRunLemmas.{seen_joint, name_of, share_kept}
use Rattle.gos_sharing.specs.buffers.Buffers.{IsBuffer}
use Rattle.gos_sharing.proofs.buffers.GroundLemmas.{OfCaller}
use Rattle.gos_sharing.proofs.buffers.BranchLemmas.{caller_shake, source_shake, for_one, caller_of, share_leaves, share_branch, place_stands}
use Rattle.gos_sharing.proofs.buffers.BesideLemmas.{Linked, Beside, none_before_put, none_before_taken, filled}

-- both joints of a pair of handshakes are there, and are seen as one
record Line (i : ℕ) (t : Type') (c : ℕ) (r q : Plan) (h g : ℕ) : Type 0 where
  pub asker : End
  pub server : End
  pub into : IsIn (joint asker (PartEnd i h)) r.joints
  pub out : IsIn (joint (PartEnd i g) server) r.joints
  pub asks : asks_in q.joints asker ≡ true
  pub onto : next i t c r asker ≡ Some (PartEnd i g)
  pub placed : places_of r (PartEnd i h) ≡ Some asker

line : (i : ℕ) (t : Type') (c : ℕ) (r q : Plan) → IsSeenThrough i t c r q → (h g : ℕ) → Pair i t c r h g → (a b : End) → IsIn (joint a (PartEnd i h)) r.joints
    → IsIn (joint (PartEnd i g) b) r.joints → Line i t c r q h g
line i t c r q is h g pair a b into out =
    record {
      asker = a;
      server = b;
      into = into;
      out = out;
      asks = asking;
      onto = pair_through i t c r q is h g pair a into asking;
      placed = place_serving r a (PartEnd i h) is.right into;
    }
  where
    asking : asks_in q.joints a ≡ true
    asking = asks_so q.joints a b (seen_joint i t c r q is h g pair a b into out)

-- the end at which the Share asks, if it is joined
asked_joint : (i : ℕ) (t : Type') (c : ℕ) (r q : Plan) → IsSeenThrough i t c r q → (h g : ℕ) → Pair i t c r h g → (d : End) → places_of r (PartEnd i g) ≡ Some d
    → (b : End) × IsIn (joint (PartEnd i g) b) r.joints
asked_joint i t c r q is h g pair d there =
    let f = found r.joints (PartEnd i g) d there in
    let own = asked_there r i g (Share t) d is.right is.share pair.asks_at there in
    (f.joint.serving, subst (λ (y : End). IsIn (joint y f.joint.serving) r.joints) (f.named ∙ own) f.is_in)

-- where a request may be taken
request_line : (i : ℕ) (t : Type') (c : ℕ) (r q : Plan) → IsBuffer i t c r q → (h g b : ℕ) → Pair i t c r h g → IsForCaller t c b h → (a : End)
    → places_of r (PartEnd i h) ≡ Some a → Line i t c r q h g
request_line i t c r q is h g b pair for a there = at_caller (caller_shake i t c r q is h a pair.serves_at there)
  where
    into : IsIn (joint a (PartEnd i h)) r.joints
    into = served_there r i h (Share t) a is.seen.right is.seen.share pair.serves_at there

    -- the number of the source's handshake
    with_number : (j : ℕ) → j < count t → h ≡ count t + c * count t + j → Line i t c r q h g
    with_number j lt e = of_joint (is.goes_on j lt (subst (λ (n : ℕ). StandsIn r (PartEnd i n)) e (place_stands r (PartEnd i h) a there)))
      where
        number : j ≡ g
        number =
            sym (to_source (count t) (count t + c * count t) j (omega arith)) ∙ (ap (passed_on t c) (sym e) ∙ pair.onward)

        of_joint : StandsIn r (source_end i j) → Line i t c r q h g
        of_joint (k, has, at_end) =
            let placed : places_of r (PartEnd i j) ≡ Some k.asking = stands_there r k (PartEnd i j) is.seen.right (contained r.joints k has) (grind (arith, at_end)) in
            let server = asked_joint i t c r q is.seen h g pair k.asking (subst (λ (n : ℕ). places_of r (PartEnd i n) ≡ Some k.asking) number placed) in
            line i t c r q is.seen h g pair a server.0 into server.1

    at_caller : OfCaller t h → Line i t c r q h g
    at_caller (d, j, two, lt, e) = by_side for
      where
        by_side : IsForCaller t c b h → Line i t c r q h g
        by_side (inl k) =
            let low : count t + c * count t ≤ count t + d * count t + j = subst (λ (n : ℕ). count t + c * count t ≤ n) e k.0 in
            let high : count t + d * count t + j < count t + c * count t + count t = subst (λ (n : ℕ). n < count t + c * count t + count t) e k.1 in
            let same = same_branch (count t) j d c is.seen.caller lt low high in
            with_number j lt (e ∙ ap (λ x. count t + x * count t + j) same)
        by_side (inr k) = absurd (omega (arith, e, k.0))

-- where an answer may be taken, of which the caller is known to be joined
answer_line : (i : ℕ) (t : Type') (c : ℕ) (r q : Plan) → IsBuffer i t c r q → (h g : ℕ) → Pair i t c r h g → (d : End) → places_of r (PartEnd i g) ≡ Some d
    → g < count t → (a : End) × IsIn (joint a (caller_end i t c g)) r.joints → Line i t c r q h g
answer_line i t c r q is h g pair d there lt from =
    let server = asked_joint i t c r q is.seen h g pair d there in
    let at : caller_end i t c g ≡ PartEnd i h = caller_of i t c r h g g lt pair refl in
    line i t c r q is.seen h g pair from.0 server.0 (subst (λ (e : End). IsIn (joint from.0 e) r.joints) at from.1) server.1

-- ends outside keep what is open
outside_open : (i g : ℕ) (b : Bool) (o : Open) (e : End) → (IsOfPart i e → ⊥) → with_open (PartEnd i g) b o e ≡ o e
outside_open i g b o e apart = by_test (same_end e (PartEnd i g)) refl
  where
    by_test : (x : Bool) → same_end e (PartEnd i g) ≡ x → (if x then b else o e) ≡ o e
    by_test true h = absurd (apart (of_part i g e (same_is e (PartEnd i g) h)))
    by_test false h = refl

-- the Share's own firing, in order
pub record ShareAlike (i : ℕ) (t : Type') (c : ℕ) (r q : Plan) (slot : Slot) (o u : Open) (s w : Tokens) : Type 0 where
  pub opened : Open
  pub comes : ComesInOrder r (Fire i slot) s o opened
  pub beside : Beside i t c r q opened u w
  pub seen : seen_tokens i t c r q w ≡ seen_tokens i t c r q s

-- the order, of the one value and row that there are
abbrev pub InOrderBy : ℕ → Plan → Slot → Open → Open → Tokens → ℕ → Row → Type 0
InOrderBy i r slot o m s x y =
    AllComeWell r i (y.puts x) (after_taken r (end_of i slot) (way_of slot) o) (with_state i (y.next x) (with_token r (end_of i y.takes) (way_of y.takes) None s))
    × (m ≡ after_puts r i (y.puts x) (after_taken r (end_of i slot) (way_of slot) o))

pub one_order : (i : ℕ) (r : Plan) (slot : Slot) (o m : Open) (s : Tokens) (v : ℕ) (row : Row) → token_at r s (end_of i slot) (way_of slot) ≡ Some v
    → firing_of (slice_get r.parts i) (s.state i) slot ≡ Some row → InOrderBy i r slot o m s v row → ComesInOrder r (Fire i slot) s o m
one_order i r slot o m s v row lies by well x y also too =
    let values : Some v ≡ Some x = sym lies ∙ also in
    let rows : Some row ≡ Some y = sym by ∙ too in
    let value : v ≡ x = cc values in
    let same : row ≡ y = cc rows in
    subst (λ (a : ℕ). InOrderBy i r slot o m s a y) value (subst (λ (b : Row). InOrderBy i r slot o m s v b) same well)

-- what it takes and puts, written out
abbrev pub WellBy : ℕ → Plan → Open → Open → Tokens → State → Slot → Slot → List Token → Type 0
WellBy i r o m s x slot takes ts =
    AllComeWell r i ts (after_taken r (end_of i slot) (way_of slot) o) (with_state i x (with_token r (end_of i takes) (way_of takes) None s))
    × (m ≡ after_puts r i ts (after_taken r (end_of i slot) (way_of slot) o))

pub written_out : (i : ℕ) (r : Plan) (o m : Open) (s : Tokens) (row : Row) (v : ℕ) (slot there : Slot) (ts : List Token) → row.takes ≡ slot → slot ≡ there → row.puts v ≡ ts
    → WellBy i r o m s (row.next v) there there ts → InOrderBy i r slot o m s v row
written_out i r o m s row v slot there ts takes is puts well =
    subst (λ (y : List Token). WellBy i r o m s (row.next v) slot row.takes y) (sym puts)
    (subst (λ (y : Slot). WellBy i r o m s (row.next v) slot y ts) (sym (takes ∙ is))
    (subst (λ (y : Slot). WellBy i r o m s (row.next v) y there ts) (sym is) well))

-- a request that is passed on finds the source's handshake closed
request_well : (i : ℕ) (t : Type') (c : ℕ) (r q : Plan) → IsSeenThrough i t c r q → (h g v : ℕ) → Line i t c r q h g → (o : Open) (s : Tokens) → Kept i t c r q o s
    → token_at r s (PartEnd i h) Request ≡ Some v → o (PartEnd i g) ≡ false
request_well i t c r q is h g v at o s kept lies = by_open (o (PartEnd i g)) refl
  where
    by_open : (b : Bool) → o (PartEnd i g) ≡ b → b ≡ false
    by_open false k = refl
    by_open true k =
        let old = kept.firsts at.asker (PartEnd i g) at.asks at.onto k in
        absurd (not_both_so v (s.in_place Request at.asker) old.1 (sym (ap (held_at s Request) at.placed) ∙ lies))

-- the places and the handshake of the joint that leads into the Share, where an answer is passed back
answer_well : (i : ℕ) (t : Type') (c : ℕ) (r q : Plan) → IsSeenThrough i t c r q → (h g v : ℕ) → Line i t c r q h g → (o : Open) (s : Tokens) (x : State) → Kept i t c r q o s
    → s.in_place Answer (PartEnd i g) ≡ Some v
    → ComesWell r (PartEnd i h) Answer (with_open (PartEnd i g) false o) (with_state i x (with_token r (PartEnd i g) Answer None s))
answer_well i t c r q is h g v at o s x kept here = by_open (o (PartEnd i g)) refl
  where
    apart : IsOfPart i at.asker → ⊥
    apart = outside_at i t c r q at.asker (asking_at i t c r q is at.asker at.asks)

    empty : (way : Direction) → s.in_place way at.asker ≡ None → token_at r (with_state i x (with_token r (PartEnd i g) Answer None s)) (PartEnd i h) way ≡ None
    empty way none =
        ap (held_at (with_state i x (with_token r (PartEnd i g) Answer None s)) way) at.placed
        ∙ stays_empty s Answer way (places_of r (PartEnd i g)) at.asker none

    with_old : (o at.asker ≡ true) × (s.in_place Request at.asker ≡ None) × (s.in_place Answer at.asker ≡ None)
        → ComesWell r (PartEnd i h) Answer (with_open (PartEnd i g) false o) (with_state i x (with_token r (PartEnd i g) Answer None s))
    with_old (up, one, other) = (
      ap (λ (p : Option End). with_open (PartEnd i g) false o (named_by p (PartEnd i h))) at.placed ∙ (outside_open i g false o at.asker apart ∙ up),
      λ way. empty way (both_none s at.asker way one other),
    )

    by_open : (b : Bool) → o (PartEnd i g) ≡ b → ComesWell r (PartEnd i h) Answer (with_open (PartEnd i g) false o) (with_state i x (with_token r (PartEnd i g) Answer None s))
    by_open true k = with_old (kept.firsts at.asker (PartEnd i g) at.asks at.onto k)
    by_open false k = absurd (not_both_so v (s.in_place Answer (PartEnd i g)) (fit_none o s kept.fit (PartEnd i g) k Answer) here)

-- what leads into the Share is still linked to what follows
linked_request : (i : ℕ) (t : Type') (c : ℕ) (r q : Plan) → IsSeenThrough i t c r q → (h g v : ℕ) → Pair i t c r h g → (x : State) (o : Open) (s : Tokens) → Linked i t c r q o s
    → Linked i t c r q (with_open (PartEnd i g) true o) (with_token r (PartEnd i g) Request (Some v) (with_state i x (with_token r (PartEnd i h) Request None s)))
linked_request i t c r q is h g v pair x o s linked a d asking onto up none also = by_test (same_end d (PartEnd i g)) refl
  where
    apart : IsOfPart i a → ⊥
    apart = outside_at i t c r q a (asking_at i t c r q is a asking)

    was : o a ≡ true
    was = sym (outside_open i g true o a apart) ∙ up

    before : (w : Direction) → (with_token r (PartEnd i g) Request (Some v) (with_state i x (with_token r (PartEnd i h) Request None s))).in_place w a ≡ None
        → (with_token r (PartEnd i h) Request None s).in_place w a ≡ None
    before w k = none_before_put (with_state i x (with_token r (PartEnd i h) Request None s)) Request w (places_of r (PartEnd i g)) v a k

    by_test : (b : Bool) → same_end d (PartEnd i g) ≡ b → (if b then true else o d) ≡ true
    by_test true k = refl
    by_test false k =
        linked a d asking onto was
        (none_before_taken s Request Request (places_of r (PartEnd i h)) a (λ there w. other there) (before Request none))
        (none_before_taken s Request Answer (places_of r (PartEnd i h)) a (λ there w. other there) (before Answer also))
      where
        other : places_of r (PartEnd i h) ≡ Some a → ⊥
        other there =
            let into = served_there r i h (Share t) a is.right is.share pair.serves_at there in
            let both : Some d ≡ Some (PartEnd i g) = sym onto ∙ pair_through i t c r q is h g pair a into asking in
            let at_g : d ≡ PartEnd i g = cc both in
            let y : same_end d (PartEnd i g) ≡ true = ap (λ e. same_end e (PartEnd i g)) at_g ∙ same_itself (PartEnd i g) in
            let clash : true ≡ false = sym y ∙ k in cc clash

linked_answer : (i : ℕ) (t : Type') (c : ℕ) (r q : Plan) → IsSeenThrough i t c r q → (h g v : ℕ) → Pair i t c r h g → (x : State) (o : Open) (s : Tokens) → Linked i t c r q o s
    → Linked i t c r q (with_open (PartEnd i g) false o) (with_token r (PartEnd i h) Answer (Some v) (with_state i x (with_token r (PartEnd i g) Answer None s)))
linked_answer i t c r q is h g v pair x o s linked a d asking onto up none also = by_test (same_end d (PartEnd i g)) refl
  where
    apart : IsOfPart i a → ⊥
    apart = outside_at i t c r q a (asking_at i t c r q is a asking)

    was : o a ≡ true
    was = sym (outside_open i g false o a apart) ∙ up

    before : (w : Direction) → (with_token r (PartEnd i h) Answer (Some v) (with_state i x (with_token r (PartEnd i g) Answer None s))).in_place w a ≡ None
        → (with_token r (PartEnd i g) Answer None s).in_place w a ≡ None
    before w k = none_before_put (with_state i x (with_token r (PartEnd i g) Answer None s)) Answer w (places_of r (PartEnd i h)) v a k

    other : places_of r (PartEnd i g) ≡ Some a → ⊥
    other there = differ i t c r q is a g asking (asked_there r i g (Share t) a is.right is.share pair.asks_at there)

    -- the answer lies there
    lies : places_of r (PartEnd i h) ≡ Some a → ⊥
    lies there =
        not_both_so v _ (subst (λ (p : Option End). (with_held Answer p (Some v) (with_state i x (with_token r (PartEnd i g) Answer None s))).in_place Answer a ≡ None) there also)
        (filled (with_state i x (with_token r (PartEnd i g) Answer None s)) a v Answer)

    by_test : (b : Bool) → same_end d (PartEnd i g) ≡ b → (if b then false else o d) ≡ true
    by_test true k =
        let into = into_pair i t c r q is h g pair a asking (onto ∙ ap Some (same_is d (PartEnd i g) k)) in
        absurd (lies (place_serving r a (PartEnd i h) is.right into))
    by_test false k =
        linked a d asking onto was
        (none_before_taken s Answer Request (places_of r (PartEnd i g)) a (λ there w. other there) (before Request none))
        (none_before_taken s Answer Answer (places_of r (PartEnd i g)) a (λ there w. other there) (before Answer also))

pub share_alike : (i : ℕ) (t : Type') (c : ℕ) (r q : Plan) → IsBuffer i t c r q → (slot : Slot) (o u : Open) (s w : Tokens) → Beside i t c r q o u s
    → Does r (Fire i slot) s w → ShareAlike i t c r q slot o u s w
share_alike i t c r q is slot o u s w beside does = of_kind p.passed
  where
    for : IsForCaller t c (s.state i).number (shake_of slot)
    for = for_one i t c r q is slot o s w beside.kept.fit beside.branch does

    p : Passed i t c r slot s w
    p = share_passes i t c r q is.seen slot s w for does

    named : handshake_at r (PartEnd i p.out) ≡ PartEnd i p.out
    named = name_of r i p.out (λ d there. asked_there r i p.out (Share t) d is.seen.right is.seen.share p.pair.asks_at there)

    alike : (b : Bool) → ComesInOrder r (Fire i slot) s o (with_open (PartEnd i p.out) b o)
        → Linked i t c r q (with_open (PartEnd i p.out) b o) w → ShareAlike i t c r q slot o u s w
    alike b comes linked =
        record {
          opened = with_open (PartEnd i p.out) b o;
          comes = comes;
          beside =
              record {
                kept = share_kept i t c r q is.seen slot o (with_open (PartEnd i p.out) b o) s w does p comes beside.kept;
                branch = share_branch i t c r q is slot o (with_open (PartEnd i p.out) b o) s w beside.kept.fit beside.branch does comes;
                rests = ap (λ (x : State). x.phase) (share_leaves i t c r q is slot s w for does);
                same = λ e apart puts. outside_open i p.out b o e apart ∙ beside.same e apart puts;
                linked = linked;
                asking = beside.asking;
              };
          seen = share_seen i t c r q is.seen slot s w (all_clear i t c r q is.seen o s beside.kept) p;
        }

    of_kind : IsRequestPassed i r p.into p.out slot p.value p.row s w ⊎ IsAnswerPassed i r p.into p.out slot p.value p.row s w → ShareAlike i t c r q slot o u s w
    of_kind (inl (same, puts, lies, leads)) = by_place (places_of r (PartEnd i p.into)) refl
      where
        at_into : IsForCaller t c (s.state i).number p.into
        at_into = subst (λ (x : Slot). IsForCaller t c (s.state i).number (shake_of x)) same for

        by_place : (f : Option End) → places_of r (PartEnd i p.into) ≡ f → ShareAlike i t c r q slot o u s w
        by_place None k = absurd (not_both_so p.value (token_at r s (PartEnd i p.into) Request) (ap (held_at s Request) k) lies)
        by_place (Some a) k =
            let at = request_line i t c r q is p.into p.out (s.state i).number p.pair at_into a k in
            let shut : o (PartEnd i p.out) ≡ false = request_well i t c r q is.seen p.into p.out p.value at o s beside.kept lies in
            alike true
            (one_order i r slot o (with_open (PartEnd i p.out) true o) s p.value p.row p.lies p.fires
            (written_out i r o (with_open (PartEnd i p.out) true o) s p.row p.value slot (Req p.into) (put (Req p.out) p.value ∷ []) p.takes same puts
            ((ap o named ∙ shut, tt), ap (λ e. with_open e true o) (sym named))))
            (subst (λ (z : Tokens). Linked i t c r q (with_open (PartEnd i p.out) true o) z) (sym leads)
            (linked_request i t c r q is.seen p.into p.out p.value p.pair (p.row.next p.value) o s beside.linked))
    of_kind (inr (same, puts, lies, leads)) = by_place (places_of r (PartEnd i p.out)) refl
      where
        by_place : (f : Option End) → places_of r (PartEnd i p.out) ≡ f → ShareAlike i t c r q slot o u s w
        by_place None k = absurd (not_both_so p.value (token_at r s (PartEnd i p.out) Answer) (ap (held_at s Answer) k) lies)
        by_place (Some d) k =
            let own = asked_there r i p.out (Share t) d is.seen.right is.seen.share p.pair.asks_at k in
            let here : s.in_place Answer (PartEnd i p.out) ≡ Some p.value = ap (s.in_place Answer) (sym own) ∙ (sym (ap (held_at s Answer) k) ∙ lies) in
            let lt = source_shake i t c r q is p.out d p.pair.asks_at k in
            let up : o (PartEnd i p.out) ≡ true = is_open (o (PartEnd i p.out)) refl here in
            let from = (beside.branch p.out lt up).1 in
            let at = answer_line i t c r q is p.into p.out p.pair d k lt from in
            alike false
            (one_order i r slot o (with_open (PartEnd i p.out) false o) s p.value p.row p.lies p.fires
            (written_out i r o (with_open (PartEnd i p.out) false o) s p.row p.value slot (Ans p.out) (put (Ans p.into) p.value ∷ []) p.takes same puts (
              (
                subst (λ (e : End). ComesWell r (PartEnd i p.into) Answer (with_open e false o) (with_state i (p.row.next p.value) (with_token r (PartEnd i p.out) Answer None s))) (sym named)
                    (answer_well i t c r q is.seen p.into p.out p.value at o s (p.row.next p.value) beside.kept here),
                tt,
              ),
              ap (λ e. with_open e false o) (sym named),
            )))
            (subst (λ (z : Tokens). Linked i t c r q (with_open (PartEnd i p.out) false o) z) (sym leads)
            (linked_answer i t c r q is.seen p.into p.out p.value p.pair (p.row.next p.value) o s beside.linked))
          where
            is_open : (b : Bool) → o (PartEnd i p.out) ≡ b → s.in_place Answer (PartEnd i p.out) ≡ Some p.value → o (PartEnd i p.out) ≡ true
            is_open true y z = y
            is_open false y z = absurd (not_both_so p.value (s.in_place Answer (PartEnd i p.out)) (fit_none o s beside.kept.fit (PartEnd i p.out) y Answer) z)
