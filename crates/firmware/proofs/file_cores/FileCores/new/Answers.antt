use Rattle.std.proofs.Common.{rules, ap, ◌∙◌}
use Rattle.firmware.specs.Cores.{granted, no_window}
use Rattle.firmware.proofs.Granting.{same_widths, or_default}
use Rattle.firmware.proofs.file_cores.FileCores.new.Goals as goal

pub returns : goal.returns
unfolding granted
returns c = λ tick.
    let late = or_default {default = 0} (λ value is. is) c.args.layers.late _ c.unwrap_or_default.ensures in
    let window = or_default {default = no_window} (λ value is. search (rules, is)) c.args.layers.hold_back _ c.unwrap_or_default-window.ensures in
    same_widths tick
    (ap (λ late. late.below.blocks.now) c.new-3.ensures.below ∙ ap (λ ladder. ladder.blocks.now) c.new-2.ensures.below ∙ ap (λ x. x.now) c.new.ensures)
    (ap (λ late. late.by) c.new-3.ensures.below ∙ search (rules, late))
    (c.new-3.ensures.window ∙ window)
