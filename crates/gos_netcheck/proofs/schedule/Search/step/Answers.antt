use Rattle.std.proofs.Common.{List, map, arith, sym, ap, subst, ◌∙◌, refl}
use Rattle.std.specs.Prelude.{Some}
use Rattle.std.proofs.lemmas.List.{length-map}
use Rattle.gos_netlist.specs.Nets.{Cell}
use Rattle.gos_netlist.specs.Seen.{cell_of}
use Rattle.gos_netcheck.specs.declared.schedule.Search.{Search}
use Rattle.gos_netcheck.specs.inner.Search.{Stands, IsLater}
use Rattle.gos_netcheck.proofs.StepLemmas.{top_read, top_within, step_places, step_goes_on, waiting_read, waited_for_is_new, open_on_path, step_finds}
use Rattle.gos_netcheck.proofs.schedule.Search.step.Goals as goal
use Rattle.gos_netcheck.proofs.schedule.Search.step.Goals.{in-None+in_ok-place-in-None, in-Some+else-is_open+in_ok-go_on_to-in-Some}

pub first_waited_for-requires-clause-there : goal.first_waited_for-requires-clause-there
first_waited_for-requires-clause-there c =
    let top = top_read c.args.self.now c.index-net.result.now c.len.result c.requires.some c.len.ensures c.index-net.ensures in
    let within = top_within (map cell_of c.args.cells.now) c.args.self.now c.index-net.result.now top c.requires.stands in
    omega (arith, within, length-map c.args.cells.now cell_of)

pub place-requires : goal.place-requires
place-requires c =
    let top = top_read c.args.self.now c.index-net.result.now c.len.result c.requires.some c.len.ensures c.index-net.ensures in
    let within = top_within (map cell_of c.args.cells.now) c.args.self.now c.index-net.result.now top c.requires.stands in
    omega (arith, within, c.requires.stands.count, c.args.self.now.marks.ok.0)

pub cycle_at-requires : goal.cycle_at-requires
cycle_at-requires c =
    let cells : List Cell = map cell_of c.args.cells.now in
    let waiting = rw c.deref.ensures.value at c.in-Some.ensures in
    let read = waiting_read cells c.args.self.now c.index-net.result.now.0 c.in-Some.pin.0 c.index.result.now c.requires.stands waiting c.index.ensures in
    rw c.deref-then-is_open.ensures.value
    (open_on_path cells c.args.self.now c.in-Some.pin.0 c.requires.stands (read ∙ ap Some (c.if-is_open.ensures.0 refl)))

pub returns-then-is_open-clause-cycle : goal.returns-then-is_open-clause-cycle
returns-then-is_open-clause-cycle c =
    let cells : List Cell = map cell_of c.args.cells.now in
    let top = top_read c.args.self.now c.index-net.result.now c.len.result c.requires.some c.len.ensures c.index-net.ensures in
    let waiting = rw c.deref.ensures.value at c.in-Some.ensures in
    let found = rw c.deref-then-is_open.ensures.value at c.in_ok-cycle_at-in-Some.ensures in
    step_finds cells c.args.self.now c.index-net.result.now c.in-Some.pin _ top c.requires.stands waiting.0 found

pub returns-clause-stands : goal.returns-clause-stands
returns-clause-stands c =
    let cells : List Cell = map cell_of c.args.cells.now in
    let top = top_read c.args.self.now c.index-net.result.now c.len.result c.requires.some c.len.ensures c.index-net.ensures in
    elim c.match-first_waited_for.branch [
      | in-None+in_ok-place-in-None w ↦
          let ready = rw c.deref.ensures.value at w.in-None.ensures in
          let done = w.in_ok-place-in-None.ensures in
          let step = step_places cells c.args.self.now w.place.new.self c.index-net.result.now top c.requires.stands ready done.marks done.path done.order in
          subst (Stands cells) (sym w.self-is) step.0
      | in-Some+else-is_open+in_ok-go_on_to-in-Some w ↦
          let waiting = rw c.deref.ensures.value at w.in-Some.ensures in
          let read =
          waiting_read cells c.args.self.now c.index-net.result.now.0 w.in-Some.pin.0 w.index.result.now c.requires.stands waiting w.index.ensures in
          let new = waited_for_is_new cells c.args.self.now c.index-net.result.now w.in-Some.pin w.index.result.now top c.requires.stands waiting read w.if-is_open.ensures.1 in
          let done = w.in_ok-go_on_to-in-Some.ensures in
          let step = step_goes_on cells c.args.self.now w.go_on_to.new.self w.in-Some.pin c.requires.stands new.0 new.1 done.marks done.path done.order in
          subst (Stands cells) (sym w.self-is) step.0
    ]

pub returns-clause-later : goal.returns-clause-later
returns-clause-later c =
    let cells : List Cell = map cell_of c.args.cells.now in
    let top = top_read c.args.self.now c.index-net.result.now c.len.result c.requires.some c.len.ensures c.index-net.ensures in
    let P : Search → Type 0 = λ s. IsLater c.args.self.now.marks.items s.marks.items in
    elim c.match-first_waited_for.branch [
      | in-None+in_ok-place-in-None w ↦
          let ready = rw c.deref.ensures.value at w.in-None.ensures in
          let done = w.in_ok-place-in-None.ensures in
          let step = step_places cells c.args.self.now w.place.new.self c.index-net.result.now top c.requires.stands ready done.marks done.path done.order in
          subst P (sym w.self-is) step.1
      | in-Some+else-is_open+in_ok-go_on_to-in-Some w ↦
          let waiting = rw c.deref.ensures.value at w.in-Some.ensures in
          let read =
          waiting_read cells c.args.self.now c.index-net.result.now.0 w.in-Some.pin.0 w.index.result.now c.requires.stands waiting w.index.ensures in
          let new = waited_for_is_new cells c.args.self.now c.index-net.result.now w.in-Some.pin w.index.result.now top c.requires.stands waiting read w.if-is_open.ensures.1 in
          let done = w.in_ok-go_on_to-in-Some.ensures in
          let step = step_goes_on cells c.args.self.now w.go_on_to.new.self w.in-Some.pin c.requires.stands new.0 new.1 done.marks done.path done.order in
          subst P (sym w.self-is) step.1
    ]
