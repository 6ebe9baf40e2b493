-- A firing in order that doesn't go on keeps what stands below each open handshake.
use Rattle.std.specs.Prelude.{Option, None}
use Rattle.std.proofs.Common.{◌≡◌, inl, inr, ℕ, suc, Bool, true, false, List, [], ◌∷◌, Some, slice_get, refl, sym, ◌∙◌, ap, subst, arith, nat_eq}
use Rattle.gos_types.specs.declared.shakes.Role.TheVariants.{Serve}
use Rattle.gos_types.specs.Events.{Request, Answer}
use Rattle.gos_model.proofs.NumberLemmas.{nat_eq_itself}
use Rattle.gos_plan.specs.Kinds.{Part}
use Rattle.gos_plan.specs.Firing.{State, Slot, Req, Ans, Token, Row, same_slot, firing}
use Rattle.gos_plan.specs.Plans.{End, PartEnd, Plan, IsRight}
use Rattle.gos_plan.specs.Tokens.{Tokens, places_of, with_held, end_of, way_of, shake_of, token_at, with_token, with_state, firing_of, fired}
use Rattle.gos_plan.specs.Orderly.{handshake_at, Open, after_taken}
use Rattle.gos_plan.proofs.JointLemmas.{same_itself}
use Rattle.gos_plan.proofs.HeldLemmas.{Fits, AllFit}
use Rattle.gos_plan.proofs.TurnLemmas.{fired_state}
use Rattle.gos_plan.proofs.RowLemmas.{role_taking}
use Rattle.gos_plan.proofs.AskingLemmas.{TakesAsking, PutsAsking, PutsInRole, RoleIs, row_roles, row_asks}
use Rattle.gos_plan.proofs.ProjectionLemmas.{taken_own, taken_other, puts_other}
use Rattle.gos_plan.specs.Firings.{Asked, after_taking}
use Rattle.gos_plan.specs.Projection.{asked_by}
use Rattle.gos_realises.specs.realises.Matched.{asks_on}
use Rattle.gos_realises.specs.quiet.Ranks.{Ranks, Stepped}
use Rattle.gos_realises.proofs.quiet.RankLemmas.{TakenAt, taken_at}
use Rattle.gos_realises.proofs.quiet.QuietLemmas.{lies_open}
use Rattle.gos_realises.proofs.quiet.TieLemmas.{Tied, is_put}
use Rattle.gos_realises.proofs.quiet.FrameLemmas.{Busy, one_server, busy_taken, NeverAnswers, busy_puts}
use Rattle.gos_realises.proofs.quiet.LadderLemmas.{Support, Ladders, LawAt, opened_by, rank_by, rank_elsewhere, put_role, at_end, part_is, shake_is}

-- where a request was taken its handshake is in service
pub taken_busy : (p : Plan) (e : End) (v : ℕ) (o : Open) (s : Tokens) → AllFit o s → (at : TakenAt p e Request v s)
    → Busy o (with_token p e Request None s) at.joint.asking
taken_busy p e v o s fit at =
    subst (λ (a : Option End). Busy o (with_held Request a None s) at.joint.asking) (sym at.place)
    (record { is_open = opened; request = rw (same_itself at.joint.asking) refl; answer = empty (o at.joint.asking) opened (fit at.joint.asking) })
  where
    opened : o at.joint.asking ≡ true
    opened = lies_open (o at.joint.asking) (s.in_place Request at.joint.asking) (s.in_place Answer at.joint.asking) v (fit at.joint.asking) (inl at.lies)

    empty : (b : Bool) → b ≡ true → Fits b (s.in_place Request at.joint.asking) (s.in_place Answer at.joint.asking) → s.in_place Answer at.joint.asking ≡ None
    empty true is (inl none) = let never : None ≡ Some v = sym none ∙ at.lies in absurd (cc never)
    empty true is (inr none) = none
    empty false is h = absurd (cc is)

-- what was open after a token was taken
pub was_open : (slot : Slot) (o : Asked) (a : ℕ) → after_taking slot o a ≡ true → (o a ≡ true) × (same_slot slot (Ans a) ≡ false)
was_open (Req h) o a is = (is, refl)
was_open (Ans h) o a is = by_test (nat_eq a h) refl
  where
    by_test : (b : Bool) → nat_eq a h ≡ b → (o a ≡ true) × (nat_eq h a ≡ false)
    by_test true same = let never : false ≡ true = rw same at is in absurd (cc never)
    by_test false apart = (rw apart at is, grind (arith, apart))

-- one firing of part j, which is of kind l
pub record Firing (p : Plan) (j : ℕ) (slot : Slot) (o : Open) (f : Ranks) (s : Tokens) (m : Open) (h : Ranks) (w : Tokens) : Type 0 where
  pub step : Stepped p j slot o f s m h w
  pub right : IsRight p
  pub fit : AllFit o s
  pub kind : Part
  pub is : slice_get p.parts j ≡ Some kind
  pub takes : step.row.takes ≡ slot
  pub takes_role : RoleIs kind (shake_of slot) (role_taking slot)
  pub puts_role : PutsInRole kind (step.row.puts step.value)
  pub takes_asking : TakesAsking kind slot
  pub puts_asking : PutsAsking kind (step.row.puts step.value)

pub firing_facts : (p : Plan) (j : ℕ) (slot : Slot) (o m : Open) (f h : Ranks) (s w : Tokens) → IsRight p → AllFit o s → Stepped p j slot o f s m h w
    → Firing p j slot o f s m h w
firing_facts p j slot o m f h s w right fit x = of_part (slice_get p.parts j) refl
  where
    of_part : (k : Option Part) → slice_get p.parts j ≡ k → Firing p j slot o f s m h w
    of_part None none =
        let never : None ≡ Some x.row = subst (λ (y : Option Part). firing_of y (s.state j) slot ≡ Some x.row) none x.fires in
        absurd (cc never)
    of_part (Some k) is =
        let fires = subst (λ (y : Option Part). firing_of y (s.state j) slot ≡ Some x.row) is x.fires in
        let roles = row_roles k (s.state j) slot x.row x.value fires in
        let asks = row_asks k (s.state j) slot x.row x.value fires in
        record {
          step = x;
          right = right;
          fit = fit;
          kind = k;
          is = is;
          takes = roles.0;
          takes_role = subst (λ (y : Slot). RoleIs k (shake_of y) (role_taking y)) roles.0 roles.1.0;
          puts_role = roles.1.1;
          takes_asking = subst (TakesAsking k) asks.0 asks.1.0;
          puts_asking = asks.1.1;
        }

-- a handshake in service that the firing doesn't answer
stays_busy : (p : Plan) (j : ℕ) (slot : Slot) (o m : Open) (f h : Ranks) (s w : Tokens) (n : End) → (x : Firing p j slot o f s m h w)
    → Busy (after_taken p (end_of j slot) (way_of slot) o) (with_token p (end_of j slot) (way_of slot) None s) n
    → NeverAnswers p j n (x.step.row.puts x.step.value) → Busy m w n × (h n ≡ f n)
stays_busy p j slot o m f h s w n x busy never =
    let now = x.step.comes x.step.value x.step.row x.step.lies x.step.fires in
    let ts = x.step.row.puts x.step.value in
    let before = after_taken p (end_of j slot) (way_of slot) o in
    let between : Slot → Tokens = λ (c : Slot). with_state j (x.step.row.next x.step.value) (with_token p (end_of j c) (way_of c) None s) in
    let first = subst (λ (c : Slot). Busy before (between c) n) (sym x.takes)
    (record { is_open = busy.is_open; request = busy.request; answer = busy.answer }) in
    let all = busy_puts p j (suc (f (handshake_at p (end_of j slot)))) ts before f (between x.step.row.takes) n now.0 never first in (
      subst (λ (y : Tokens). Busy m y n) (sym x.step.leads) (subst (λ (y : Open). Busy y (fired p j x.step.row x.step.value s) n) (sym now.1) all.0),
      ap (λ (y : Ranks). y n) x.step.ranks ∙ all.1,
    )

-- only the part that fires changes its state
state_own : (p : Plan) (j : ℕ) (slot : Slot) (o m : Open) (f h : Ranks) (s w : Tokens) (x : Stepped p j slot o f s m h w) → w.state j ≡ x.row.next x.value
state_own p j slot o m f h s w x = ap (λ (y : Tokens). y.state j) x.leads ∙ (fired_state p j x.row x.value s j ∙ rw (nat_eq_itself j) refl)

state_other : (p : Plan) (i j : ℕ) (slot : Slot) (o m : Open) (f h : Ranks) (s w : Tokens) (x : Stepped p j slot o f s m h w) → nat_eq i j ≡ false
    → w.state i ≡ s.state i
state_other p i j slot o m f h s w x apart = ap (λ (y : Tokens). y.state i) x.leads ∙ (fired_state p j x.row x.value s i ∙ rw apart refl)

-- another part keeps what stands below its handshakes
ladder_other : (p : Plan) (i j : ℕ) (slot : Slot) (o m : Open) (f h : Ranks) (s w : Tokens) (x : Firing p j slot o f s m h w) → nat_eq i j ≡ false
    → Ladders p o f s → (a r : ℕ) → m (PartEnd i a) ≡ true → h (PartEnd i a) ≡ suc r → Support p m h w i a r
ladder_other p i j slot o m f h s w x apart ladders a r opened ranked =
    record {
      kind = below.kind;
      is = below.is;
      server = below.server;
      place = below.place;
      there = below.there;
      serves = below.serves;
      tied = subst (λ (q : State). Tied below.kind q a below.server) (sym (state_other p i j slot o m f h s w x.step apart)) below.tied;
      busy = stays.0;
      rank = stays.1 ∙ below.rank;
    }
  where
    ts : List Token
    ts = x.step.row.puts x.step.value

    same_open : m (PartEnd i a) ≡ o (PartEnd i a)
    same_open =
        ap (λ (y : Open). y (PartEnd i a)) (x.step.comes x.step.value x.step.row x.step.lies x.step.fires).1
        ∙ (puts_other p i j x.kind ts (after_taken p (end_of j slot) (way_of slot) o) x.right x.is x.puts_asking apart a
        ∙ taken_other p i j x.kind slot o x.right x.is x.takes_asking apart a)

    same_rank : h (PartEnd i a) ≡ f (PartEnd i a)
    same_rank =
        ap (λ (y : Ranks). y (PartEnd i a)) x.step.ranks
        ∙ rank_elsewhere p j (suc (f (handshake_at p (end_of j slot)))) x.kind ts f (PartEnd i a) x.right x.is x.puts_asking (λ c. rw apart refl)

    below : Support p o f s i a r
    below = ladders i a r (sym same_open ∙ opened) (sym same_rank ∙ ranked)

    never : NeverAnswers p j below.place ts
    never c put there =
        let one = one_server p (PartEnd j c) (PartEnd i below.server) below.place x.right there below.there
        (at_end p j c x.kind x.is (put_role x.kind ts c x.puts_role put)) (at_end p i below.server below.kind below.is below.serves) in
        let same = part_is j i c below.server one in
        let no_part : true ≡ false = sym (nat_eq_itself i) ∙ (ap (nat_eq i) (sym same) ∙ apart) in
        cc no_part

    stays : Busy m w below.place × (h below.place ≡ f below.place)
    stays =
        stays_busy p j slot o m f h s w below.place x
        (busy_taken p (end_of j slot) (way_of slot) x.step.value o s below.place x.step.lies below.busy) never

-- none of the answers that it puts is at a handshake of this place, where it serves by number b
not_answered : (p : Plan) (j : ℕ) (slot : Slot) (o m : Open) (f h : Ranks) (s w : Tokens) (x : Firing p j slot o f s m h w) (b : ℕ) (n : End)
    → places_of p (PartEnd j b) ≡ Some n → RoleIs x.kind b Serve → is_put (Ans b) (x.step.row.puts x.step.value) ≡ false
    → NeverAnswers p j n (x.step.row.puts x.step.value)
not_answered p j slot o m f h s w x b n place serves none c put there =
    let one = one_server p (PartEnd j c) (PartEnd j b) n x.right there place
    (at_end p j c x.kind x.is (put_role x.kind (x.step.row.puts x.step.value) c x.puts_role put)) (at_end p j b x.kind x.is serves) in
    let same = shake_is j j c b one in
    let no_put : true ≡ false =
    sym (subst (λ (y : ℕ). is_put (Ans y) (x.step.row.puts x.step.value) ≡ true) same put) ∙ none in
    cc no_put

-- a request that it puts stands on the one that it took
ladder_put : (p : Plan) (j : ℕ) (slot : Slot) (o m : Open) (f h : Ranks) (s w : Tokens) (x : Firing p j slot o f s m h w)
    → LawAt p o j x.kind (s.state j) x.step.value x.step.row → (a r : ℕ) → is_put (Req a) (x.step.row.puts x.step.value) ≡ true
    → h (PartEnd j a) ≡ suc r → Support p m h w j a r
ladder_put p j (Req b) o m f h s w x law a r put ranked =
    record {
      kind = x.kind;
      is = x.is;
      server = b;
      place = at.joint.asking;
      there = at.place;
      serves = x.takes_role;
      tied = subst (λ (q : State). Tied x.kind q a b) (sym (state_own p j (Req b) o m f h s w x.step)) ties.0;
      busy = stays.0;
      rank = stays.1 ∙ (ap f (sym at.named) ∙ grind (arith, ranks));
    }
  where
    at : TakenAt p (PartEnd j b) Request x.step.value s
    at = taken_at p (PartEnd j b) Request x.step.value s x.step.lies

    ties : Tied x.kind (x.step.row.next x.step.value) a b × (is_put (Ans b) (x.step.row.puts x.step.value) ≡ false)
    ties = (law a b).0 put (subst (λ (c : Slot). same_slot c (Req b) ≡ true) (sym x.takes) (nat_eq_itself b))

    ranks : suc (f (handshake_at p (PartEnd j b))) ≡ suc r
    ranks =
        sym (ap (λ (y : Ranks). y (PartEnd j a)) x.step.ranks
        ∙ (rank_by p j (suc (f (handshake_at p (PartEnd j b)))) x.kind (x.step.row.puts x.step.value) f a x.right x.is x.puts_asking ∙ rw put refl))
        ∙ ranked

    stays : Busy m w at.joint.asking × (h at.joint.asking ≡ f at.joint.asking)
    stays =
        stays_busy p j (Req b) o m f h s w at.joint.asking x (taken_busy p (PartEnd j b) x.step.value o s x.fit at)
        (not_answered p j (Req b) o m f h s w x b at.joint.asking at.place x.takes_role ties.1)
ladder_put p j (Ans b) o m f h s w x law a r put ranked = absurd (x.step.stays x.step.value x.step.row x.step.lies x.step.fires (asks a (x.step.row.puts x.step.value) put) refl)
  where
    asks : (a : ℕ) (ts : List Token) → is_put (Req a) ts ≡ true → asks_on ts ≡ true
    asks a [] put = absurd (cc put)
    asks a (t ∷ ts) put = by_slot t.slot refl (asks a ts)
      where
        by_slot : (slot : Slot) → t.slot ≡ slot → (is_put (Req a) ts ≡ true → asks_on ts ≡ true) → asks_on (t ∷ ts) ≡ true
        by_slot (Req h) is more = rw is refl
        by_slot (Ans h) is more = let rest = more (grind (arith, put, is)) in grind (arith, is, rest)

-- one that it doesn't put stands where it stood
ladder_kept : (p : Plan) (j : ℕ) (slot : Slot) (o m : Open) (f h : Ranks) (s w : Tokens) (x : Firing p j slot o f s m h w)
    → LawAt p o j x.kind (s.state j) x.step.value x.step.row → Ladders p o f s → (a r : ℕ)
    → is_put (Req a) (x.step.row.puts x.step.value) ≡ false → m (PartEnd j a) ≡ true → h (PartEnd j a) ≡ suc r → Support p m h w j a r
ladder_kept p j slot o m f h s w x law ladders a r none opened ranked =
    record {
      kind = x.kind;
      is = x.is;
      server = below.server;
      place = below.place;
      there = below.there;
      serves = serves;
      tied = subst (λ (q : State). Tied x.kind q a below.server) (sym (state_own p j slot o m f h s w x.step)) ties.1;
      busy = stays.0;
      rank = stays.1 ∙ below.rank;
    }
  where
    ts : List Token
    ts = x.step.row.puts x.step.value

    was : (o (PartEnd j a) ≡ true) × (same_slot slot (Ans a) ≡ false)
    was =
        was_open slot (asked_by j o) a
        (sym (taken_own p j x.kind slot o x.right x.is x.takes_asking a)
        ∙ (sym (opened_by p j x.kind ts (after_taken p (end_of j slot) (way_of slot) o) a x.right x.is x.puts_asking ∙ rw none refl)
        ∙ (ap (λ (y : Open). y (PartEnd j a)) (sym (x.step.comes x.step.value x.step.row x.step.lies x.step.fires).1) ∙ opened)))

    same_rank : h (PartEnd j a) ≡ f (PartEnd j a)
    same_rank =
        ap (λ (y : Ranks). y (PartEnd j a)) x.step.ranks
        ∙ (rank_by p j (suc (f (handshake_at p (end_of j slot)))) x.kind ts f a x.right x.is x.puts_asking ∙ rw none refl)

    below : Support p o f s j a r
    below = ladders j a r was.0 (sym same_rank ∙ ranked)

    kind_is : below.kind ≡ x.kind
    kind_is = let is = below.is in let other = x.is in cc (is, other)

    serves : RoleIs x.kind below.server Serve
    serves = subst (λ (k : Part). RoleIs k below.server Serve) kind_is below.serves

    ties : (is_put (Ans below.server) ts ≡ false) × Tied x.kind (x.step.row.next x.step.value) a below.server
    ties =
        (law a below.server).1 (subst (λ (k : Part). Tied k (s.state j) a below.server) kind_is below.tied) was.0
        (subst (λ (c : Slot). same_slot c (Ans a) ≡ false) (sym x.takes) was.1)

    stays : Busy m w below.place × (h below.place ≡ f below.place)
    stays =
        stays_busy p j slot o m f h s w below.place x
        (busy_taken p (end_of j slot) (way_of slot) x.step.value o s below.place x.step.lies below.busy)
        (not_answered p j slot o m f h s w x below.server below.place below.there serves ties.0)

-- so every firing keeps them
abbrev pub Law : Plan → Open → Tokens → Type 0
Law p o s =
    (j : ℕ) (k : Part) (slot : Slot) (r : Row) (v : ℕ) → slice_get p.parts j ≡ Some k → token_at p s (end_of j slot) (way_of slot) ≡ Some v
    → firing k (s.state j) slot ≡ Some r → LawAt p o j k (s.state j) v r

pub ladders_step : (p : Plan) (j : ℕ) (slot : Slot) (o m : Open) (f h : Ranks) (s w : Tokens) → IsRight p → AllFit o s → Law p o s
    → Stepped p j slot o f s m h w → Ladders p o f s → Ladders p m h w
ladders_step p j slot o m f h s w right fit law step ladders i a r opened ranked = by_part (nat_eq i j) refl
  where
    x : Firing p j slot o f s m h w
    x = firing_facts p j slot o m f h s w right fit step

    here : LawAt p o j x.kind (s.state j) x.step.value x.step.row
    here =
        law j x.kind slot x.step.row x.step.value x.is x.step.lies
        (subst (λ (y : Option Part). firing_of y (s.state j) slot ≡ Some x.step.row) x.is x.step.fires)

    by_put : (b : Bool) → is_put (Req a) (x.step.row.puts x.step.value) ≡ b → m (PartEnd j a) ≡ true → h (PartEnd j a) ≡ suc r → Support p m h w j a r
    by_put true put up rank = ladder_put p j slot o m f h s w x here a r put rank
    by_put false none up rank = ladder_kept p j slot o m f h s w x here ladders a r none up rank

    by_part : (b : Bool) → nat_eq i j ≡ b → Support p m h w i a r
    by_part false apart = ladder_other p i j slot o m f h s w x apart ladders a r opened ranked
    by_part true is =
        let same : j ≡ i = grind (arith, is) in
        subst (λ (n : ℕ). Support p m h w n a r) same
        (by_put (is_put (Req a) (x.step.row.puts x.step.value)) refl (ap (λ (n : ℕ). m (PartEnd n a)) same ∙ opened)
        (ap (λ (n : ℕ). h (PartEnd n a)) same ∙ ranked))
