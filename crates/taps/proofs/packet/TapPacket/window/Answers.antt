use Rattle.std.specs.Prelude.{option_map}
use Rattle.skb.specs.SkbState.{buffer_bytes}
use Rattle.offload_model.specs.Written.{shown_bytes}
use Rattle.taps.proofs.Spans.{shown_window}
use Rattle.taps.proofs.packet.TapPacket.window.Goals as goal

pub returns-clause-window : goal.returns-clause-window
returns-clause-window c =
    shown_window (buffer_bytes c.args.self.now.skb.now) (shown_bytes (option_map (λ p. p.now) c.args.filter) (buffer_bytes c.args.self.now.skb.now))
    c.shown_len-shown.result c.args.snap c.args.tap c.min-from.result c.min-to.result c.shown_len-shown.ensures.shown c.min-from.ensures c.min-to.ensures
