use Rattle.std.proofs.Common.{string_bytes}
use Rattle.stamps.specs.Stamp.{stamp_of}
use Rattle.trace_history.specs.Shown.{events_in}
use Rattle.sheet_lines.proofs.Gathered.{one_more_node}
use Rattle.sheet_lines.proofs.held_back.add_held_back.Goals as goal

pub loop-node-preserved : goal.loop-node-preserved
loop-node-preserved g c =
    one_more_node (events_in c.args.events.now) c.args.stamp c.loop-node.node (stamp_of c.last_stamp.result)
    (string_bytes c.args.text.now) (string_bytes c.loop-node.text) (string_bytes c.add_if_held_back.new.text)
    c.loop-node.invariant c.last_stamp.ensures c.in_ok-add_if_held_back.ensures
