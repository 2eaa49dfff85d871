use Rattle.std.proofs.Common.{length, get_or, refl}
use Rattle.addresses.proofs.Fining.{fine_proper}
use Rattle.addresses.proofs.Living.{writes_itself}
use Rattle.mailboxes.specs.Listed.{listed}
use Rattle.life.specs.declared.turn.Turn.{Turn}
use Rattle.life.specs.Rows.{Turned, none}
use Rattle.life.proofs.Living.{turn_row, turn_left, turns_all, row_life}
use Rattle.life.proofs.row.perform.Goals as goal

pub loop-turn-init : goal.loop-turn-init
loop-turn-init g c = (none, refl)

pub loop-turn-preserved : goal.loop-turn-preserved
loop-turn-preserved g c =
    let w = g.S.Source.waiting in
    let x = g.S.Source.close in
    let l = c.loop-turn in
    let z = c.turn-item.result in
    let item : Turn g.row.S.Denot = get_or l.turns l.turn-index z in
    let y : Turn g.row.S.Denot = record { event = item.event; source = c.call-turn.new.source; answer = c.call-turn.result } in
    let s : Turned w x (listed l.list) l.out item y (listed c.call-turn.new.list) c.call-turn.new.out = record { same = refl; performed = c.call-turn.ensures } in (
      turn_row w x c.args.turns.now l.turns l.turn-index z y c.loop-turn-test.true l.auto.turns l.invariant.0 l.invariant.1 s,
      turn_left w x c.args.turns.now l.turns l.turn-index z y c.loop-turn-test.true l.auto.turns l.invariant.0 l.invariant.1 s,
    )

pub returns : goal.returns
returns g c =
    let w = g.S.Source.waiting in
    let x = g.S.Source.close in
    let l = c.loop-turn in
    let row = turns_all w x c.args.turns.now l.turns l.turn-index c.loop-turn-test.false l.auto.turns l.invariant.0 in
    record {
      row = row;
      life = record {
        life = row_life w x g.S.Source.proper (length c.args.out.now) (fine_proper (listed c.args.list.now) c.args.list.now.proper) refl row;
        writes = writes_itself (listed l.list) (fine_proper (listed l.list) l.list.proper);
      };
    }
