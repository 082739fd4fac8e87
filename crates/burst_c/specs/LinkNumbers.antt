-- What packets begin with, by a number of the registry of link types.
use Rattle.std.specs.Prelude.{◌≡◌, ◌⊎◌, ℕ, ◌==◌, if◌then◌else◌}
use Rattle.frame_bursts.specs.declared.link.Link.{Link}
use Rattle.frame_bursts.specs.declared.link.Link.TheVariants.{Ethernet, RawIp}

abbrev pub IsLink : ℕ → Type 0
IsLink number = (number ≡ 1) ⊎ (number ≡ 101)

-- 101 is raw IP (LINKTYPE_RAW), and 1 Ethernet (LINKTYPE_ETHERNET)
abbrev pub link_of : ℕ → Link
link_of number = if number == 101 then RawIp else Ethernet
