use Rattle.std.proofs.Common.{rules, ℕ, List, ◌∷◌, [], ◌++◌, ap, ◌∙◌}
use Rattle.trace.specs.Contents.{key_bytes}
use Rattle.trace.specs.Numbers.{bytes_of}
use Rattle.trace.specs.Writing.{overlay}
use Rattle.trace.proofs.Over.{overlay_overlay}
use Rattle.trace.proofs.records.Record.lay_over.Goals as goal

pub returns-in-Receipt-clause-after : goal.returns-in-Receipt-clause-after
returns-in-Receipt-clause-after c =
    let event = c.from-kind.result ∷ c.in-Receipt.node ∷ bytes_of 8 c.in-Receipt.raw in
    let message : List ℕ = c.to_be_bytes-in-Receipt.result in
    let raw = c.lay_event-behind_raw-in-Receipt in
    c.lay-in-Receipt.ensures.after
    ∙ ap (overlay raw.result message) raw.ensures.after
    ∙ overlay_overlay c.args.place raw.result c.args.buffer.now event message (search rules) (search rules)
    ∙ ap (λ (bytes : List ℕ). overlay c.args.place bytes c.args.buffer.now) (search rules)

pub returns-in-Send-clause-after : goal.returns-in-Send-clause-after
returns-in-Send-clause-after c =
    let event = c.from-kind.result ∷ c.in-Send.node ∷ bytes_of 8 c.in-Send.raw in
    let to = c.in-Send.to ∷ [] in
    let message : List ℕ = c.to_be_bytes-in-Send.result in
    let raw = c.lay_event-behind_raw in
    let at = c.lay-behind_to in
    c.lay-in-Send.ensures.after
    ∙ ap (overlay at.result message) (at.ensures.after
    ∙ ap (overlay raw.result to) raw.ensures.after
    ∙ overlay_overlay c.args.place raw.result c.args.buffer.now event to (search rules) (search rules))
    ∙ overlay_overlay c.args.place at.result c.args.buffer.now (event ++ to) message (search rules) (search rules)
    ∙ ap (λ (bytes : List ℕ). overlay c.args.place bytes c.args.buffer.now) (search rules)

pub returns-in-Put-clause-after : goal.returns-in-Put-clause-after
returns-in-Put-clause-after c =
    let event = c.from-kind.result ∷ c.in-Put.node ∷ bytes_of 8 c.in-Put.raw in
    let key = key_bytes c.in-Put.key.bytes in
    let value : List ℕ = c.to_be_bytes-in-Put.result in
    let raw = c.lay_event-behind_raw-in-Put in
    let at = c.lay_key-behind_key in
    c.lay-in-Put.ensures.after
    ∙ ap (overlay at.result value) (at.ensures.after
    ∙ ap (overlay raw.result key) raw.ensures.after
    ∙ overlay_overlay c.args.place raw.result c.args.buffer.now event key (search rules) (search rules))
    ∙ overlay_overlay c.args.place at.result c.args.buffer.now (event ++ key) value (search rules) (search rules)
    ∙ ap (λ (bytes : List ℕ). overlay c.args.place bytes c.args.buffer.now) (search rules)
