-- A firing of the whole is one of its part's plan, once the token that it takes is there.
use Rattle.std.specs.Prelude.{ℕ, ◌+◌, Bool, true, false, List, Option, Some, None, All, slice_get, nat_eq, if◌then◌else◌}
use Rattle.std.proofs.Common.{◌≡◌, [], ◌∷◌, inl, inr, refl, sym, ◌∙◌, ap, subst, arith}
use Rattle.std.proofs.lemmas.Bool.{ne_eqb}
use Rattle.gos_types.specs.Events.{Direction}
use Rattle.gos_plan.specs.Kinds.{Part, Contact}
use Rattle.gos_plan.specs.Firing.{Slot, Token, Row, firing}
use Rattle.gos_plan.specs.Plans.{End, PartEnd, ImportEnd, ResultEnd, Plan, contact_at, contacts_of_part}
use Rattle.gos_plan.specs.Tokens.{Tokens, Fire, IsPortEnd, token_at, with_token, with_state, with_puts, end_of, way_of, shake_of, firing_of, fired, way_taken, way_put, Does}
use Rattle.gos_plan.specs.TokenBits.{LiteralFits}
use Rattle.gos_plan.specs.Orderly.{Open, after_taken, after_put, after_puts, ComesWell, AllComeWell}
use Rattle.gos_plan.specs.Joining.{Place, place, Wiring, origin, IsJoining}
use Rattle.gos_plan.proofs.JointLemmas.{joined}
use Rattle.gos_plan.proofs.TurnLemmas.{fired_state, way_to_take, way_to_put}
use Rattle.gos_plan.proofs.AskingLemmas.{PutsInRole, RowInRole, row_roles}
use Rattle.gos_realises.specs.realises.Regular.{Pass, is_open, IsRegular}
use Rattle.gos_realises.specs.realises.Links.{LinksFit}
use Rattle.gos_plan.proofs.DecidedLemmas.{Told}
use Rattle.gos_realises.proofs.joined.ReachLemmas.{told_number}
use Rattle.gos_realises.proofs.joined.OriginLemmas.{before}
use Rattle.gos_supplies.proofs.turns.StandLemmas.{Passed, lies_in}
use Rattle.gos_supplies.proofs.turns.RunLemmas.{Reached, Next, next}
use Rattle.gos_supplies.proofs.turns.TrailLemmas.{LinksArePorts}
use Rattle.gos_supplies.proofs.turns.FollowLemmas.{Stand, Family, Follows, follows_same, Seat, seat}
use Rattle.gos_supplies.proofs.turns.OpLemmas.{Op, follows_took, follows_put, follows_lost}
use Rattle.gos_supplies.proofs.turns.GoesLemmas.{PassesTurns, Goes, SameStates, setting, set_here, set_else}
use Rattle.gos_supplies.proofs.turns.ReadyLemmas.{ready, all_welcome}
use Rattle.gos_supplies.proofs.turns.ElementLemmas.{stand, Went, same_family, goes_then}

-- a part's token passes no port
part_passed : (F G : End → Bool) (i h : ℕ) (way : Direction) → ((d : End) → IsPortEnd d → G d ≡ F d) → Passed F G (PartEnd i h) way
part_passed F G i h way same (PartEnd j g) port = absurd port
part_passed F G i h way same (ImportEnd j g) port = same (ImportEnd j g) port
part_passed F G i h way same (ResultEnd g) port = same (ResultEnd g) port

-- one plan stands as X and then as Y, where a part takes or puts a token
part_op : (w : Wiring) (r : Plan) (i h j k : ℕ) (p : Plan) (c : Contact) (way : Direction) (held : Option ℕ) (X Y : Stand) (F : Family) (past : List Pass)
    → origin w (PartEnd i h) ≡ place k (PartEnd j h) → contact_at r (PartEnd i h) ≡ Some c → slice_get w.plans k ≡ Some p → Y.past ≡ X.past
    → Y.tokens.in_place ≡ (with_token p (PartEnd j h) way held X.tokens).in_place → Op w r (setting k X F) (setting k Y F) past past (PartEnd i h) c way held p
part_op w r i h j k p c way held X Y F past stands there is pasts tokens =
    record {
      there = there;
      is = subst (λ (z : Place). slice_get w.plans z.plan ≡ Some p) (sym stands) is;
      others = λ m apart.
          (let other : m ≡ k → ⊥ = λ same. apart (same ∙ ap (λ (z : Place). z.plan) (sym stands)) in set_else k Y F m other ∙ sym (set_else k X F m other));
      tokens =
          subst (λ (z : Place). (setting k Y F z.plan).tokens.in_place ≡ (with_token p z.end way held (setting k X F z.plan).tokens).in_place) (sym stands)
          (ap (λ (y : Stand). y.tokens.in_place) (set_here k Y F)
          ∙ (tokens ∙ sym (ap (λ (y : Stand). (with_token p (PartEnd j h) way held y.tokens).in_place) (set_here k X F))));
      own =
          subst (λ (z : Place). Passed (is_open (setting k X F z.plan).past) (is_open (setting k Y F z.plan).past) z.end way) (sym stands)
          (part_passed (is_open (setting k X F k).past) (is_open (setting k Y F k).past) j h way
          (λ d port. ap (λ (y : Stand). is_open y.past d) (set_here k Y F)
          ∙ (ap (λ (q : List Pass). is_open q d) pasts ∙ sym (ap (λ (y : Stand). is_open y.past d) (set_here k X F)))));
      outer = part_passed (is_open past) (is_open past) i h way (λ d port. refl);
    }

module _ (w : Wiring) (r : Plan) (fit : LinksFit w) (ported : LinksArePorts w) (whole : IsJoining w r) where
  -- one token that a part puts
  one_put : (F : Family) (k i j : ℕ) (f : Part) (p : Plan) (pk past : List Pass) (t : Token) (ok : Open) (sk : Tokens) (o : Open) (s : Tokens) → slice_get w.plans k ≡ Some p
      → slice_get r.parts i ≡ Some f → ((h : ℕ) → origin w (PartEnd i h) ≡ place k (PartEnd j h))
      → ((c : Contact) → contact_at r (end_of i t.slot) ≡ Some c → way_put c.role ≡ way_of t.slot)
      → Follows w r (setting k (stand ok pk sk) F) o past s → ComesWell p (end_of j t.slot) (way_of t.slot) ok sk
      → ComesWell r (end_of i t.slot) (way_of t.slot) o s
      × Follows w r (setting k (stand (after_put p (end_of j t.slot) (way_of t.slot) ok) pk (with_token p (end_of j t.slot) (way_of t.slot) (Some t.value) sk)) F)
      (after_put r (end_of i t.slot) (way_of t.slot) o) past (with_token r (end_of i t.slot) (way_of t.slot) (Some t.value) s)
  one_put F k i j f p pk past t ok sk o s is at stands role so well = by_contact (contact_at r (end_of i t.slot)) refl
    where
      h : ℕ
      h = shake_of t.slot

      way : Direction
      way = way_of t.slot

      X : Stand
      X = stand ok pk sk

      Y : Stand
      Y = stand (after_put p (end_of j t.slot) way ok) pk (with_token p (end_of j t.slot) way (Some t.value) sk)

      opens : (setting k Y F (origin w (PartEnd i h)).plan).opens
          ≡ after_put p (origin w (PartEnd i h)).end way (setting k X F (origin w (PartEnd i h)).plan).opens
      opens =
          subst (λ (z : Place). (setting k Y F z.plan).opens ≡ after_put p z.end way (setting k X F z.plan).opens) (sym (stands h))
          (ap (λ (y : Stand). y.opens) (set_here k Y F) ∙ sym (ap (λ (y : Stand). after_put p (PartEnd j h) way y.opens) (set_here k X F)))

      well_there : ComesWell p (origin w (PartEnd i h)).end way (setting k X F (origin w (PartEnd i h)).plan).opens (setting k X F (origin w (PartEnd i h)).plan).tokens
      well_there =
          subst (λ (z : Place). ComesWell p z.end way (setting k X F z.plan).opens (setting k X F z.plan).tokens) (sym (stands h))
          (subst (λ (y : Stand). ComesWell p (PartEnd j h) way y.opens y.tokens) (sym (set_here k X F)) well)

      by_contact : (g : Option Contact) → contact_at r (end_of i t.slot) ≡ g
          → ComesWell r (end_of i t.slot) way o s
          × Follows w r (setting k Y F) (after_put r (end_of i t.slot) way o) past (with_token r (end_of i t.slot) way (Some t.value) s)
      by_contact (Some c) there =
          follows_put w r fit ported whole (setting k X F) (setting k Y F) past past (PartEnd i h) c t.value p o s way (role c there)
          (part_op w r i h j k p c way (Some t.value) X Y F past (stands h) there is refl refl) so well_there opens
      by_contact None none =
          follows_lost w r fit ported whole (setting k X F) (setting k Y F) past i h f t.value p o s way so at none
          (subst (λ (z : Place). slice_get w.plans z.plan ≡ Some p) (sym (stands h)) is)
          (λ m apart. (let other : m ≡ k → ⊥ = λ same. apart (same ∙ ap (λ (z : Place). z.plan) (sym (stands h))) in
          set_else k Y F m other ∙ sym (set_else k X F m other)))
          (subst (λ (z : Place). (setting k Y F z.plan).past ≡ (setting k X F z.plan).past) (sym (stands h))
          (ap (λ (y : Stand). y.past) (set_here k Y F) ∙ sym (ap (λ (y : Stand). y.past) (set_here k X F))))
          (subst (λ (z : Place). (setting k Y F z.plan).tokens.in_place ≡ (with_token p z.end way (Some t.value) (setting k X F z.plan).tokens).in_place) (sym (stands h))
          (ap (λ (y : Stand). y.tokens.in_place) (set_here k Y F)
          ∙ sym (ap (λ (y : Stand). (with_token p (PartEnd j h) way (Some t.value) y.tokens).in_place) (set_here k X F))))
          opens well_there

  -- and all of them
  all_put : (F : Family) (k i j : ℕ) (f : Part) (p : Plan) (pk past : List Pass) → slice_get w.plans k ≡ Some p → slice_get r.parts i ≡ Some f
      → ((h : ℕ) → origin w (PartEnd i h) ≡ place k (PartEnd j h)) → (ts : List Token) (ok : Open) (sk : Tokens) (o : Open) (s : Tokens)
      → Follows w r (setting k (stand ok pk sk) F) o past s → AllComeWell p j ts ok sk → PutsInRole f ts
      → AllComeWell r i ts o s × Follows w r (setting k (stand (after_puts p j ts ok) pk (with_puts p j ts sk)) F) (after_puts r i ts o) past (with_puts r i ts s)
  all_put F k i j f p pk past is at stands [] ok sk o s so well roles = (tt, so)
  all_put F k i j f p pk past is at stands (t ∷ ts) ok sk o s so well roles =
      let role : (c : Contact) → contact_at r (end_of i t.slot) ≡ Some c → way_put c.role ≡ way_of t.slot = λ c there.
      ap way_put (roles.0 c (ap (λ (g : Option Part). slice_get (contacts_of_part g) (shake_of t.slot)) (sym at) ∙ there)) ∙ sym (way_to_put t.slot) in
      let one = one_put F k i j f p pk past t ok sk o s is at stands role so well.0 in
      let rest = all_put F k i j f p pk past is at stands ts (after_put p (end_of j t.slot) (way_of t.slot) ok)
      (with_token p (end_of j t.slot) (way_of t.slot) (Some t.value) sk) (after_put r (end_of i t.slot) (way_of t.slot) o)
      (with_token r (end_of i t.slot) (way_of t.slot) (Some t.value) s) one.1 well.1 roles.1 in
      ((one.0, rest.0), rest.1)

module _ (w : Wiring) (r : Plan) (fit : LinksFit w) (ported : LinksArePorts w) (whole : IsJoining w r)
    (regular : (k : ℕ) (p : Plan) → slice_get w.plans k ≡ Some p → IsRegular p)
    (literals : (k : ℕ) (p : Plan) → slice_get w.plans k ≡ Some p → All LiteralFits p.parts) (passes : PassesTurns w r) where
  pub went_fire : (F : Family) (o : Open) (past : List Pass) (s u : Tokens) (i : ℕ) (t : Slot) → Goes w r F o past s → Does r (Fire i t) s u
      → Went w r (Fire i t) o past s u
  went_fire F o past s u i t so (v, row, lies, fires, leads) = by_part (slice_get r.parts i) refl
    where
      a : End
      a = end_of i t

      way : Direction
      way = way_of t

      of_part : (f : Part) → slice_get r.parts i ≡ Some f → Went w r (Fire i t) o past s u
      of_part f at =
          record {
            open_then = after_puts r i (row.puts v) (after_taken r a way o);
            comes = λ v' row' lies' fires'.
                (let values : v ≡ v' = cc (lies, lies') in
                let rows : row ≡ row' = cc (fires, fires') in
                subst (λ (y : Row). AllComeWell r i (y.puts v') (after_taken r a way o) (with_state i (y.next v') (with_token r (end_of i y.takes) (way_of y.takes) None s))
                × (after_puts r i (row.puts v) (after_taken r a way o) ≡ after_puts r i (y.puts v') (after_taken r a way o))) rows
                (subst (λ (y : ℕ). AllComeWell r i (row.puts y) (after_taken r a way o) (with_state i (row.next y) (with_token r (end_of i row.takes) (way_of row.takes) None s))
                × (after_puts r i (row.puts v) (after_taken r a way o) ≡ after_puts r i (row.puts y) (after_taken r a way o))) values (puts.0, refl)));
            welcome = all_welcome w r fit ported whole regular literals passes (setting k Z G) (after_puts r i (row.puts v) (after_taken r a way o)) past u goes;
            outputs = tt;
            family = setting k Z G;
            goes = goes;
          }
        where
          q : Seat w i f
          q = seat w r fit ported whole i f at

          k : ℕ
          k = q.plan

          j : ℕ
          j = q.part

          p : Plan
          p = q.of

          -- the handshake at which the token is taken
          fires_f : firing f (s.state i) t ≡ Some row
          fires_f = ap (λ (g : Option Part). firing_of g (s.state i) t) (sym at) ∙ fires

          roles : (row.takes ≡ t) × RowInRole f v row
          roles = row_roles f (s.state i) t row v fires_f

          its : (c : Contact) × (contact_at r a ≡ Some c)
          its = let (e, named, held) = lies_in r a way v s lies in let one = joined r a e whole.right named in (one.here, one.is_here)

          c : Contact
          c = its.0

          role : way_taken c.role ≡ way
          role =
              let there = ap (λ (g : Option Part). slice_get (contacts_of_part g) (shake_of t)) (sym at) ∙ its.1 in
              let of_takes = roles.1.0 c (ap (λ (x : Slot). slice_get (contacts_of_part (Some f)) (shake_of x)) roles.0 ∙ there) in
              ap way_taken of_takes ∙ (sym (way_to_take row.takes) ∙ ap way_of roles.0)

          at_k : slice_get w.plans (origin w a).plan ≡ Some p
          at_k = ap (λ (x : Place). slice_get w.plans x.plan) (q.stands (shake_of t)) ∙ q.is

          led : (G : Family) × Goes w r G o past s × (token_at p (G (origin w a).plan).tokens (origin w a).end way ≡ Some v) × SameStates F G
          led = ready w r fit ported whole regular literals passes F o past s so a c way v p its.1 role lies at_k

          G : Family
          G = led.0

          going : Goes w r G o past s
          going = led.1

          token : token_at p (G k).tokens (end_of j t) way ≡ Some v
          token = sym (ap (λ (x : Place). token_at p (G x.plan).tokens x.end way) (q.stands (shake_of t))) ∙ led.2

          state : s.state i ≡ (G k).tokens.state j
          state = going.states i f q at

          fires_p : firing_of (slice_get p.parts j) ((G k).tokens.state j) t ≡ Some row
          fires_p = let back = sym state in (λ z. firing_of (q.has z) (back z) t) ∙ fires_f

          does_p : Does p (Fire j t) (G k).tokens (fired p j row v (G k).tokens)
          does_p = (v, row, token, fires_p, refl)

          nexts : Next p (Fire j t) (G k).opens (G k).past (G k).tokens (fired p j row v (G k).tokens)
          nexts =
              next p (Fire j t) (G k).opens (G k).past (G k).tokens (fired p j row v (G k).tokens) (regular k p q.is) (going.reached k p q.is) does_p tt

          comes_p : AllComeWell p j (row.puts v) (after_taken p (end_of j t) way (G k).opens)
              (with_state j (row.next v) (with_token p (end_of j row.takes) (way_of row.takes) None (G k).tokens))
              × (nexts.open_then ≡ after_puts p j (row.puts v) (after_taken p (end_of j t) way (G k).opens))
          comes_p = nexts.comes v row token fires_p

          X : Stand
          X =
              stand (after_taken p (end_of j t) way (G k).opens) (G k).past
              (with_state j (row.next v) (with_token p (end_of j row.takes) (way_of row.takes) None (G k).tokens))

          Z : Stand
          Z = stand (after_puts p j (row.puts v) (after_taken p (end_of j t) way (G k).opens)) (G k).past (fired p j row v (G k).tokens)

          -- the token is taken
          follows_k : Follows w r (setting k (G k) G) o past s
          follows_k = subst (λ (y : Family). Follows w r y o past s) (sym (same_family k G)) going.follows

          took : Follows w r (setting k X G) (after_taken r a way o) past (with_token r a way None s)
          took =
              follows_took w r fit ported whole (setting k (G k) G) (setting k X G) past past a c v p o s way role
              (part_op w r i (shake_of t) j k p c way None (G k) X G past (q.stands (shake_of t)) its.1 q.is refl
              (ap (λ (y : Slot). (with_token p (end_of j y) (way_of y) None (G k).tokens).in_place) roles.0)) follows_k lies
              (subst (λ (x : Place). token_at p (setting k (G k) G x.plan).tokens x.end way ≡ Some v) (sym (q.stands (shake_of t)))
              (ap (λ (y : Stand). token_at p y.tokens (end_of j t) way) (set_here k (G k) G) ∙ token))
              (subst (λ (x : Place). (setting k X G x.plan).opens ≡ after_taken p x.end way (setting k (G k) G x.plan).opens) (sym (q.stands (shake_of t)))
              (ap (λ (y : Stand). y.opens) (set_here k X G) ∙ sym (ap (λ (y : Stand). after_taken p (end_of j t) way y.opens) (set_here k (G k) G))))

          -- and what is put is put
          first : Tokens
          first = with_state i (row.next v) (with_token r (end_of i row.takes) (way_of row.takes) None s)

          puts : AllComeWell r i (row.puts v) (after_taken r a way o) first
              × Follows w r (setting k Z G) (after_puts r i (row.puts v) (after_taken r a way o)) past (fired r i row v s)
          puts =
              all_put w r fit ported whole G k i j f p (G k).past past q.is at q.stands (row.puts v) (after_taken p (end_of j t) way (G k).opens) X.tokens
              (after_taken r a way o) first
              (follows_same w r (setting k X G) (after_taken r a way o) past (with_token r a way None s) first
              (ap (λ (y : Slot). (with_token r (end_of i y) (way_of y) None s).in_place) roles.0) took) comes_p.0 roles.1.1

          states : (i' : ℕ) (f' : Part) (q' : Seat w i' f') → slice_get r.parts i' ≡ Some f' → (fired r i row v s).state i' ≡ (setting k Z G q'.plan).tokens.state q'.part
          states i' f' q' at' = fired_state r i row v s i' ∙ by_number (told_number i' i)
            where
              -- two parts of one seat are one
              seats : q'.plan ≡ k → q'.part ≡ j → i' ≡ i
              seats plans parts = q'.number ∙ ((λ z. before w.plans (plans z) + parts z) ∙ sym q.number)

              by_number : Told (i' ≡ i) → (if nat_eq i' i then row.next v else s.state i') ≡ (setting k Z G q'.plan).tokens.state q'.part
              by_number (inl same) =
                  let one : nat_eq i' i ≡ true = grind (arith, same) in
                  let places : place q'.plan (PartEnd q'.part 0) ≡ place k (PartEnd j 0) =
                  sym (q'.stands 0) ∙ (ap (λ (n : ℕ). origin w (PartEnd n 0)) same ∙ q.stands 0) in
                  let plans : q'.plan ≡ k = ap (λ (x : Place). x.plan) places in
                  let ends : PartEnd q'.part 0 ≡ PartEnd j 0 = ap (λ (x : Place). x.end) places in
                  let parts : q'.part ≡ j = cc ends in
                  let self : nat_eq j j ≡ true = grind arith in
                  let fired_here : (fired p j row v (G k).tokens).state j ≡ row.next v =
                  fired_state p j row v (G k).tokens j ∙ ap (λ (b : Bool). if b then row.next v else (G k).tokens.state j) self in
                  ap (λ (b : Bool). if b then row.next v else s.state i') one
                  ∙ sym ((λ z. (setting k Z G (plans z)).tokens.state (parts z)) ∙ (ap (λ (y : Stand). y.tokens.state j) (set_here k Z G) ∙ fired_here))
              by_number (inr apart) =
                  let other : nat_eq i' i ≡ false = ne_eqb i' i apart in
                  ap (λ (b : Bool). if b then row.next v else s.state i') other ∙ (going.states i' f' q' at' ∙ sym (by_plan (told_number q'.plan k)))
                where
                  by_plan : Told (q'.plan ≡ k) → (setting k Z G q'.plan).tokens.state q'.part ≡ (G q'.plan).tokens.state q'.part
                  by_plan (inl plans) =
                      let different : nat_eq q'.part j ≡ false = ne_eqb q'.part j (λ parts. apart (seats plans parts)) in
                      ap (λ (n : ℕ). (setting k Z G n).tokens.state q'.part) plans
                      ∙ (ap (λ (y : Stand). y.tokens.state q'.part) (set_here k Z G)
                      ∙ (fired_state p j row v (G k).tokens q'.part
                      ∙ (ap (λ (b : Bool). if b then row.next v else (G k).tokens.state q'.part) different ∙ ap (λ (n : ℕ). (G n).tokens.state q'.part) (sym plans))))
                  by_plan (inr plans) = ap (λ (y : Stand). y.tokens.state q'.part) (set_else k Z G q'.plan plans)

          goes : Goes w r (setting k Z G) (after_puts r i (row.puts v) (after_taken r a way o)) past u
          goes =
              subst (Goes w r (setting k Z G) (after_puts r i (row.puts v) (after_taken r a way o)) past) (sym leads)
              (goes_then w r G o (after_puts r i (row.puts v) (after_taken r a way o)) past past s (fired r i row v s) k p Z going q.is puts.1
              (subst (λ (y : Open). Reached p y (G k).past (fired p j row v (G k).tokens)) comes_p.1 nexts.reached) (going.turned k p q.is) going.outer states)

      by_part : (g : Option Part) → slice_get r.parts i ≡ g → Went w r (Fire i t) o past s u
      by_part None none = let never : None ≡ Some row = sym (ap (λ (g : Option Part). firing_of g (s.state i) t) none) ∙ fires in absurd (cc never)
      by_part (Some f) at = of_part f at
