-- What a run of several packets comes to, as they lie.
use Rattle.std.specs.Prelude.{ℕ, Option, Some, None, List, drop}
use Rattle.std.specs.List.{flat_map}
use Rattle.frame_layout.specs.Shape.{Layout}
use Rattle.pcap_io.specs.Capture.{Packet}
use Rattle.frame_runs.specs.declared.run.Run.{Run}

-- where the payloads of a run's packets begin
abbrev pub payload_place : Option Layout → ℕ
payload_place None = 0
payload_place (Some layout) = layout.payload_at

abbrev pub headers_size : Run → ℕ
headers_size run = payload_place run.layout

-- what is behind a place of each
abbrev pub payloads_behind : ℕ → List Packet → List ℕ
payloads_behind at ps = flat_map (λ (p : Packet). drop at p.frame) ps
