use Rattle.std.proofs.Common.{◌∙◌, ◌++◌, ap, map, false, [], None, arith}
use Rattle.elab_design.specs.Raw.{raw_cell}
use Rattle.elab_unfold.specs.Shapes.{port_seen}
use Rattle.elab_unfold.proofs.LeafLaws.{given_sound}
use Rattle.elab_unfold.proofs.PortLaws.{port_room, ports_step, ports_end}
use Rattle.elab_unfold.proofs.ports.push_all.Goals as goal

pub push_given-requires-clause-inner_room : goal.push_given-requires-clause-inner_room
push_given-requires-clause-inner_room c =
    omega (arith, c.requires.inner_room, port_room c.args.inner.now.places.holder.now c.as_slice-port-items.result.now c.loop-k.k (record { name = record { ref_ptr = (0, 0); now = [] }; output = false; net = None }) (ap (map port_seen) c.as_slice-port-items.ensures.value ∙ c.requires.ports) c.loop-k-test.true)

pub push_given-requires-clause-sound : goal.push_given-requires-clause-sound
push_given-requires-clause-sound c = given_sound c.args.outer.now.holder.now c.args.inst.now.conns c.loop-k.k _ c.connected.result c.requires.sound (c.connected.ensures c.args.inst.now.conns c.requires.given)

pub loop-k-preserved : goal.loop-k-preserved
loop-k-preserved c path number outer inner =
    ports_step c.args.outer.now.holder.now c.args.inner.now.places.holder.now path c.args.inst.now c.args.base c.args.next number outer inner c.as_slice-port-items.result.now c.loop-k.k _ c.connected.result c.args.cells.now c.loop-k.cells c.push_given.new.cells
    (ap (map port_seen) c.as_slice-port-items.ensures.value ∙ c.requires.ports) c.loop-k-test.true (c.connected.ensures c.args.inst.now.conns c.requires.given) (c.loop-k.invariant path number outer inner) (c.in_ok-push_given.ensures path number outer)

pub returns : goal.returns
returns c path number outer inner =
    c.loop-k.invariant path number outer inner
    ∙ ap (λ cells. c.args.cells.now ++ map (raw_cell number) cells) (ports_end c.args.outer.now.holder.now c.args.inner.now.places.holder.now path c.args.inst.now c.as_slice-port-items.result.now c.loop-k.k (ap (map port_seen) c.as_slice-port-items.ensures.value ∙ c.requires.ports) (omega (arith, c.loop-k-test.false)))
