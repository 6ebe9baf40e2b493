-- What a region that hangs on an end opens and closes in the whole has names of its own ends, and puts nothing that doesn't come in order
-- there.
--
-- The last result is `side_step`: an element of the whole that is one of the region comes in order where the region's does.
use Rattle.std.specs.Prelude.{◌≡◌, ℕ, Bool, true, false, List, [], ◌∷◌, Option, Some, None, nat_eq, nat_lt, slice_get, length, if◌then◌else◌}
use Rattle.std.proofs.Common.{arith, refl, sym, ap, subst, inl, ◌∙◌}
use Rattle.std.proofs.lemmas.Option.{same_Some, slice_get_within}
use Rattle.std.proofs.lemmas.Bool.{eqb-true}
use Rattle.gos_types.specs.declared.shakes.Role.{Role}
use Rattle.gos_types.specs.declared.shakes.Role.TheVariants.{Serve, Ask}
use Rattle.gos_types.specs.Events.{Direction, Request, Answer}
use Rattle.gos_plan.specs.Kinds.{Part, Contact}
use Rattle.gos_plan.specs.Firing.{Rest, Slot, Token, Row, at}
use Rattle.gos_plan.specs.Plans.{End, PartEnd, ImportEnd, Plan, contact_at, same_end}
use Rattle.gos_plan.specs.Tokens.{Tokens, Element, Fire, Out, In, token_at, with_token, with_state, end_of, way_of, way_taken, way_put, firing_of, Does}
use Rattle.gos_plan.specs.Orderly.{Open, handshake_at, with_open, after_taken, after_put, ComesWell, AllComeWell, after_puts, ComesInOrder}
use Rattle.gos_plan.proofs.AskingLemmas.{TakesAsking, PutsAsking, row_asks}
use Rattle.gos_plan.proofs.ProjectionLemmas.{taken_other, puts_other}
use Rattle.gos_joining.specs.webs.Cutting.{Cut, lies_at, cut_tokens}
use Rattle.gos_joining.proofs.webs.CutLemmas.{state_put}
use Rattle.gos_nodes.proofs.windows.ClosingLemmas.{asks_itself}
use Rattle.gos_nodes.proofs.parallel.HungLemmas as region
use Rattle.gos_nodes.proofs.parallel.HungLemmas.{HeldBy, IsResult, IsHung, Local, fires, puts_out, takes_in}
use Rattle.gos_nodes.proofs.parallel.GateLemmas.{there_contact}

-- a region's handshakes are open in the whole where they are in the region
abbrev pub AgreeBy : (End → Type 0) → Cut → Plan → Open → Open → Type 0
AgreeBy Counted f p o own = (n : End) → HeldBy Counted p n → o (lies_at f n) ≡ own n

abbrev pub OpenAgree : Cut → Plan → Open → Open → Type 0
OpenAgree = AgreeBy IsResult

-- an end that is none of the region's
abbrev pub ApartBy : (End → Type 0) → Cut → Plan → End → Type 0
ApartBy Counted f p b = (n : End) → HeldBy Counted p n → same_end b (lies_at f n) ≡ false

abbrev pub IsApart : Cut → Plan → End → Type 0
IsApart = ApartBy IsResult

pub opened_so : (b t : Bool) (old : Bool) → b ≡ false → (if b then t else old) ≡ old
opened_so true t old e = absurd (cc e)
opened_so false t old e = refl

-- a firing that comes in order: its token and its row are one
pub comes_of : (r : Plan) (i : ℕ) (slot : Slot) (s w : Tokens) (o m : Open) (does : Does r (Fire i slot) s w)
    → AllComeWell r i (does.1.puts does.0) (after_taken r (end_of i slot) (way_of slot) o)
    (with_state i (does.1.next does.0) (with_token r (end_of i does.1.takes) (way_of does.1.takes) None s))
    → m ≡ after_puts r i (does.1.puts does.0) (after_taken r (end_of i slot) (way_of slot) o) → ComesInOrder r (Fire i slot) s o m
comes_of r i slot s w o m (v, row, lies, by, leads) well is_m n other lying firing =
    let value : v ≡ n = cc (lies, lying) in
    let same : row ≡ other = cc (by, firing) in
    subst (λ (y : Row). AllComeWell r i (y.puts n) (after_taken r (end_of i slot) (way_of slot) o)
    (with_state i (y.next n) (with_token r (end_of i y.takes) (way_of y.takes) None s))
    × (m ≡ after_puts r i (y.puts n) (after_taken r (end_of i slot) (way_of slot) o))) same
    (subst (λ (k : ℕ). AllComeWell r i (row.puts k) (after_taken r (end_of i slot) (way_of slot) o)
    (with_state i (row.next k) (with_token r (end_of i row.takes) (way_of row.takes) None s))
    × (m ≡ after_puts r i (row.puts k) (after_taken r (end_of i slot) (way_of slot) o))) value (well, is_m))

-- of part d, by a row that is known
pub comes_by : (r : Plan) (i : ℕ) (slot : Slot) (s w : Tokens) (o m : Open) (row : Row) → Does r (Fire i slot) s w
    → firing_of (slice_get r.parts i) (s.state i) slot ≡ Some row
    → ((v : ℕ) → AllComeWell r i (row.puts v) (after_taken r (end_of i slot) (way_of slot) o)
    (with_state i (row.next v) (with_token r (end_of i row.takes) (way_of row.takes) None s))
    × (m ≡ after_puts r i (row.puts v) (after_taken r (end_of i slot) (way_of slot) o))) → ComesInOrder r (Fire i slot) s o m
comes_by r i slot s w o m row does known facts v other lying firing =
    let same : row ≡ other = cc (known, firing) in
    subst (λ (y : Row). AllComeWell r i (y.puts v) (after_taken r (end_of i slot) (way_of slot) o)
    (with_state i (y.next v) (with_token r (end_of i y.takes) (way_of y.takes) None s))
    × (m ≡ after_puts r i (y.puts v) (after_taken r (end_of i slot) (way_of slot) o))) same (facts v)

module _ {Counted : End → Type 0} {d h w : ℕ} {f : Cut} {r p : Plan} (hung : IsHung Counted d h w f r p) where
  with_agrees : (n : End) (b : Bool) (o own : Open) → HeldBy Counted p n → AgreeBy Counted f p o own → AgreeBy Counted f p (with_open (lies_at f n) b o) (with_open n b own)
  with_agrees n b o own held agree m also =
      λ i. if region.same_held hung m n also held i then b else agree m also i

  named_agrees : (e : End) (b : Bool) (o own : Open) → HeldBy Counted p e → AgreeBy Counted f p o own
      → AgreeBy Counted f p (with_open (handshake_at r (lies_at f e)) b o) (with_open (handshake_at p e) b own)
  named_agrees e b o own held agree =
      subst (λ (x : End). AgreeBy Counted f p (with_open x b o) (with_open (handshake_at p e) b own)) (sym (region.name_lies hung e held))
      (with_agrees (handshake_at p e) b o own (region.name_held hung e held) agree)

  pub put_agrees : (e : End) (way : Direction) (o own : Open) → HeldBy Counted p e → AgreeBy Counted f p o own
      → AgreeBy Counted f p (after_put r (lies_at f e) way o) (after_put p e way own)
  put_agrees e Request o own held agree = named_agrees e true o own held agree
  put_agrees e Answer o own held agree = agree

  pub taken_agrees : (e : End) (way : Direction) (o own : Open) → HeldBy Counted p e → AgreeBy Counted f p o own
      → AgreeBy Counted f p (after_taken r (lies_at f e) way o) (after_taken p e way own)
  taken_agrees e Request o own held agree = agree
  taken_agrees e Answer o own held agree = named_agrees e false o own held agree

  named_apart : (e b : End) (t : Bool) (o : Open) → HeldBy Counted p e → ApartBy Counted f p b → with_open (handshake_at r (lies_at f e)) t o b ≡ o b
  named_apart e b t o held apart =
      opened_so (same_end b (handshake_at r (lies_at f e))) t (o b)
      (ap (same_end b) (region.name_lies hung e held) ∙ apart (handshake_at p e) (region.name_held hung e held))

  pub put_apart : (e b : End) (way : Direction) (o : Open) → HeldBy Counted p e → ApartBy Counted f p b → after_put r (lies_at f e) way o b ≡ o b
  put_apart e b Request o held apart = named_apart e b true o held apart
  put_apart e b Answer o held apart = refl

  pub taken_apart : (e b : End) (way : Direction) (o : Open) → HeldBy Counted p e → ApartBy Counted f p b → after_taken r (lies_at f e) way o b ≡ o b
  taken_apart e b Request o held apart = refl
  taken_apart e b Answer o held apart = named_apart e b false o held apart

  open_there : (e : End) (o own : Open) → HeldBy Counted p e → AgreeBy Counted f p o own → o (handshake_at r (lies_at f e)) ≡ own (handshake_at p e)
  open_there e o own held agree =
      ap o (region.name_lies hung e held) ∙ agree (handshake_at p e) (region.name_held hung e held)

  pub put_well : (e : End) (way : Direction) (o own : Open) (s : Tokens) → HeldBy Counted p e → AgreeBy Counted f p o own → ComesWell p e way own (cut_tokens f p s)
      → ComesWell r (lies_at f e) way o s
  put_well e Request o own s held agree shut = open_there e o own held agree ∙ shut
  put_well e Answer o own s held agree (up, empty) = (
    open_there e o own held agree ∙ up,
    λ way. sym (region.held_token hung e held s way) ∙ empty way,
  )

  -- the tokens that a part puts
  pub puts_agree : (j : ℕ) (k : Part) → slice_get p.parts j ≡ Some k → (ts : List Token) (o own : Open) → AgreeBy Counted f p o own
      → AgreeBy Counted f p (after_puts r (f.part j) ts o) (after_puts p j ts own)
  puts_agree j k there [] o own agree = agree
  puts_agree j k there (t ∷ ts) o own agree =
      puts_agree j k there ts (after_put r (end_of (f.part j) t.slot) (way_of t.slot) o) (after_put p (end_of j t.slot) (way_of t.slot) own)
      (put_agrees (end_of j t.slot) (way_of t.slot) o own (inl (k, there)) agree)

  pub puts_apart : (j : ℕ) (k : Part) → slice_get p.parts j ≡ Some k → (ts : List Token) (o : Open) (b : End) → ApartBy Counted f p b
      → after_puts r (f.part j) ts o b ≡ o b
  puts_apart j k there [] o b apart = refl
  puts_apart j k there (t ∷ ts) o b apart =
      puts_apart j k there ts (after_put r (end_of (f.part j) t.slot) (way_of t.slot) o) b apart
      ∙ put_apart (end_of j t.slot) b (way_of t.slot) o (inl (k, there)) apart

  pub puts_well : (j : ℕ) (k : Part) → slice_get p.parts j ≡ Some k → (ts : List Token) (o own : Open) (s : Tokens) → AgreeBy Counted f p o own
      → AllComeWell p j ts own (cut_tokens f p s) → AllComeWell r (f.part j) ts o s
  puts_well j k there [] o own s agree well = tt
  puts_well j k there (t ∷ ts) o own s agree (first, later) = (
    put_well (end_of j t.slot) (way_of t.slot) o own s (inl (k, there)) agree first,
    puts_well j k there ts (after_put r (end_of (f.part j) t.slot) (way_of t.slot) o) (after_put p (end_of j t.slot) (way_of t.slot) own)
        (with_token r (end_of (f.part j) t.slot) (way_of t.slot) (Some t.value) s) (put_agrees (end_of j t.slot) (way_of t.slot) o own (inl (k, there)) agree)
        (subst (λ (u : Tokens). AllComeWell p j ts (after_put p (end_of j t.slot) (way_of t.slot) own) u)
        (region.held_put hung (end_of j t.slot) (inl (k, there)) (way_of t.slot) (Some t.value) s) later),
  )

  -- what a part of the region does in the whole
  pub firing_same : (j : ℕ) (k : Part) → slice_get p.parts j ≡ Some k → (slot : Slot) (s : Tokens)
      → firing_of (slice_get p.parts j) ((cut_tokens f p s).state j) slot ≡ firing_of (slice_get r.parts (f.part j)) (s.state (f.part j)) slot
  firing_same j k there slot s =
      ap (λ (b : Bool). firing_of (slice_get p.parts j) (if b then s.state (f.part j) else at Rest 0) slot) within
      ∙ ap (λ (o : Option Part). firing_of o (s.state (f.part j)) slot) (there ∙ sym (hung.cut.parts j k there).0)
    where
      within : nat_lt j (length p.parts) ≡ true
      within = let less = slice_get_within p.parts j k there in grind (arith, less)

  -- the firing's state before it puts
  before_puts : (j : ℕ) (k : Part) → slice_get p.parts j ≡ Some k → (row : Row) (v : ℕ) (s : Tokens)
      → with_state j (row.next v) (with_token p (end_of j row.takes) (way_of row.takes) None (cut_tokens f p s))
      ≡ cut_tokens f p (with_state (f.part j) (row.next v) (with_token r (end_of (f.part j) row.takes) (way_of row.takes) None s))
  before_puts j k there row v s =
      ap (with_state j (row.next v)) (region.held_put hung (end_of j row.takes) (inl (k, there)) (way_of row.takes) None s)
      ∙ state_put f r p hung.cut j k there (row.next v) (with_token r (end_of (f.part j) row.takes) (way_of row.takes) None s)

  -- what is open after a firing of it
  abbrev pub after_row : Plan → ℕ → Slot → Row → ℕ → Open → Open
  after_row a i slot row v o = after_puts a i (row.puts v) (after_taken a (end_of i slot) (way_of slot) o)

  pub row_agrees : (j : ℕ) (k : Part) → slice_get p.parts j ≡ Some k → (slot : Slot) (row : Row) (v : ℕ) (o own : Open) → AgreeBy Counted f p o own
      → AgreeBy Counted f p (after_row r (f.part j) slot row v o) (after_row p j slot row v own)
  row_agrees j k there slot row v o own agree =
      puts_agree j k there (row.puts v) (after_taken r (end_of (f.part j) slot) (way_of slot) o) (after_taken p (end_of j slot) (way_of slot) own)
      (taken_agrees (end_of j slot) (way_of slot) o own (inl (k, there)) agree)

  pub row_apart : (j : ℕ) (k : Part) → slice_get p.parts j ≡ Some k → (slot : Slot) (row : Row) (v : ℕ) (o : Open) (b : End) → ApartBy Counted f p b
      → after_row r (f.part j) slot row v o b ≡ o b
  row_apart j k there slot row v o b apart =
      puts_apart j k there (row.puts v) (after_taken r (end_of (f.part j) slot) (way_of slot) o) b apart
      ∙ taken_apart (end_of j slot) b (way_of slot) o (inl (k, there)) apart

  pub fire_well : (j : ℕ) (k : Part) → slice_get p.parts j ≡ Some k → (slot : Slot) (row : Row) (v : ℕ) (o own m : Open) (s : Tokens) → AgreeBy Counted f p o own
      → token_at r s (end_of (f.part j) slot) (way_of slot) ≡ Some v → firing_of (slice_get r.parts (f.part j)) (s.state (f.part j)) slot ≡ Some row
      → ComesInOrder p (Fire j slot) (cut_tokens f p s) own m
      → AllComeWell r (f.part j) (row.puts v) (after_taken r (end_of (f.part j) slot) (way_of slot) o)
      (with_state (f.part j) (row.next v) (with_token r (end_of (f.part j) row.takes) (way_of row.takes) None s))
      × (m ≡ after_row p j slot row v own)
  fire_well j k there slot row v o own m s agree lies by comes =
      let (well, is_m) =
      comes v row (region.held_token hung (end_of j slot) (inl (k, there)) s (way_of slot) ∙ lies) (firing_same j k there slot s ∙ by) in (
        puts_well j k there (row.puts v) (after_taken r (end_of (f.part j) slot) (way_of slot) o) (after_taken p (end_of j slot) (way_of slot) own)
            (with_state (f.part j) (row.next v) (with_token r (end_of (f.part j) row.takes) (way_of row.takes) None s))
            (taken_agrees (end_of j slot) (way_of slot) o own (inl (k, there)) agree)
            (subst (λ (u : Tokens). AllComeWell p j (row.puts v) (after_taken p (end_of j slot) (way_of slot) own) u) (before_puts j k there row v s) well),
        is_m,
      )

  -- what an element of the region opens and closes in the whole
  pub record SideStep (x : Element) (s : Tokens) (o next : Open) : Type 0 where
    pub now : Open
    pub comes : ComesInOrder r x s o now
    pub agree : AgreeBy Counted f p now next
    pub kept : (b : End) → ApartBy Counted f p b → now b ≡ o b
    pub driver : (n : ℕ) → now (PartEnd d n) ≡ o (PartEnd d n)

  -- what passes an import changes nothing of the part's handshakes
  port_taken : (j k : ℕ) (t : Contact) → contact_at r (ImportEnd j k) ≡ Some t → (o : Open) (role : Role) → t.role ≡ role → (n : ℕ)
      → after_taken r (ImportEnd j k) (way_taken role) o (PartEnd d n) ≡ o (PartEnd d n)
  port_taken j k t there o Serve serves n = refl
  port_taken j k t there o Ask asks n =
      ap (λ (e : End). with_open e false o (PartEnd d n)) (asks_itself r hung.cut.whole_right (ImportEnd j k) t there asks)

  port_put : (j k : ℕ) (t : Contact) → contact_at r (ImportEnd j k) ≡ Some t → (o : Open) (role : Role) → t.role ≡ role → (n : ℕ)
      → after_put r (ImportEnd j k) (way_put role) o (PartEnd d n) ≡ o (PartEnd d n)
  port_put j k t there o Serve serves n = refl
  port_put j k t there o Ask asks n =
      ap (λ (e : End). with_open e true o (PartEnd d n)) (asks_itself r hung.cut.whole_right (ImportEnd j k) t there asks)

  side_fire : (j : ℕ) (k : Part) → slice_get p.parts j ≡ Some k → (slot : Slot) (s w : Tokens) (o own next : Open) → AgreeBy Counted f p o own
      → Does r (Fire (f.part j) slot) s w → ComesInOrder p (Fire j slot) (cut_tokens f p s) own next → SideStep (Fire (f.part j) slot) s o next
  side_fire j k there slot s w o own next agree does comes =
      record {
        now = after_puts r (f.part j) (does.1.puts does.0) (after_taken r (end_of (f.part j) slot) (way_of slot) o);
        comes = comes_of r (f.part j) slot s w o _ does facts.0 refl;
        agree =
            subst (λ (x : Open). AgreeBy Counted f p (after_puts r (f.part j) (does.1.puts does.0) (after_taken r (end_of (f.part j) slot) (way_of slot) o)) x) (sym facts.1)
            (row_agrees j k there slot does.1 does.0 o own agree);
        kept = λ b apart. row_apart j k there slot does.1 does.0 o b apart;
        driver = λ n.
            puts_other r d (f.part j) k (does.1.puts does.0) (after_taken r (end_of (f.part j) slot) (way_of slot) o) hung.cut.whole_right whole asks_so.1.1 apart_part n
            ∙ taken_other r d (f.part j) k slot o hung.cut.whole_right whole (subst (λ x. TakesAsking k x) asks_so.0 asks_so.1.0) apart_part n;
      }
    where
      facts : AllComeWell r (f.part j) (does.1.puts does.0) (after_taken r (end_of (f.part j) slot) (way_of slot) o)
          (with_state (f.part j) (does.1.next does.0) (with_token r (end_of (f.part j) does.1.takes) (way_of does.1.takes) None s))
          × (next ≡ after_puts p j (does.1.puts does.0) (after_taken p (end_of j slot) (way_of slot) own))
      facts = fire_well j k there slot does.1 does.0 o own next s agree does.2 does.3 comes

      whole : slice_get r.parts (f.part j) ≡ Some k
      whole = (hung.cut.parts j k there).0

      asks_so : (does.1.takes ≡ slot) × (TakesAsking k does.1.takes × PutsAsking k (does.1.puts does.0))
      asks_so =
          row_asks k (s.state (f.part j)) slot does.1 does.0
          (subst (λ (x : Option Part). firing_of x (s.state (f.part j)) slot ≡ Some does.1) whole does.3)

      apart_part : nat_eq d (f.part j) ≡ false
      apart_part = by_test (nat_eq d (f.part j)) refl
        where
          by_test : (b : Bool) → nat_eq d (f.part j) ≡ b → b ≡ false
          by_test true e =
              let same : d ≡ f.part j = eqb-true d (f.part j) e in
              absurd (region.not_driver hung (f.part j) (j, (hung.cut.parts j k there).1) (sym same))
          by_test false e = refl

  pub side_step : (x y : Element) (s w : Tokens) (o own next : Open) → Local f r p x y → AgreeBy Counted f p o own → Does r x s w
      → ComesInOrder p y (cut_tokens f p s) own next → SideStep x s o next
  side_step x y s w o own next (fires i j slot number) agree does comes =
      let (at_part, (k, there)) = hung.cut.numbers i j number in
      subst (λ (n : ℕ). Does r (Fire n slot) s w → SideStep (Fire n slot) s o next) at_part
      (λ does. side_fire j k there slot s w o own next agree does comes) does
  side_step x y s w o own next (puts_out i j k v stands leads slices) agree (port, passes) comes =
      let (t, there) = there_contact r (Out (ImportEnd j k) v) (contact_at r (ImportEnd j k)) s w passes in
      let here = sym (region.import_contact hung i j k stands leads) ∙ there in
      let way = way_taken t.role in
      record {
        now = after_taken r (ImportEnd j k) way o;
        comes = λ z at_z. ap (λ (y : Contact). after_taken r (ImportEnd j k) (way_taken y.role) o) (same_Some t z (sym there ∙ at_z));
        agree =
            subst (λ (z : Open). AgreeBy Counted f p (after_taken r (ImportEnd j k) way o) z) (sym (comes t here))
            (subst (λ (e : End). AgreeBy Counted f p (after_taken r e way o) (after_taken p (ImportEnd i k) way own)) leads
            (taken_agrees (ImportEnd i k) way o own (inl stands) agree));
        kept = λ e apart. subst (λ (c : End). after_taken r c way o e ≡ o e) leads (taken_apart (ImportEnd i k) e way o (inl stands) apart);
        driver = λ n. port_taken j k t there o t.role refl n;
      }
  side_step x y s w o own next (takes_in i j k v stands leads slices) agree (port, passes) comes =
      let (t, there) = there_contact r (In (ImportEnd j k) v) (contact_at r (ImportEnd j k)) s w passes in
      let here = sym (region.import_contact hung i j k stands leads) ∙ there in
      let way = way_put t.role in
      let well : ComesWell r (ImportEnd j k) way o s =
      subst (λ (e : End). ComesWell r e way o s) leads (put_well (ImportEnd i k) way o own s (inl stands) agree (comes t here).0) in
      record {
        now = after_put r (ImportEnd j k) way o;
        comes = λ z at_z.
            subst (λ (y : Contact). ComesWell r (ImportEnd j k) (way_put y.role) o s
            × (after_put r (ImportEnd j k) way o ≡ after_put r (ImportEnd j k) (way_put y.role) o)) (same_Some t z (sym there ∙ at_z)) (well, refl);
        agree =
            subst (λ (z : Open). AgreeBy Counted f p (after_put r (ImportEnd j k) way o) z) (sym (comes t here).1)
            (subst (λ (e : End). AgreeBy Counted f p (after_put r e way o) (after_put p (ImportEnd i k) way own)) leads
            (put_agrees (ImportEnd i k) way o own (inl stands) agree));
        kept = λ e apart. subst (λ (c : End). after_put r c way o e ≡ o e) leads (put_apart (ImportEnd i k) e way o (inl stands) apart);
        driver = λ n. port_put j k t there o t.role refl n;
      }
