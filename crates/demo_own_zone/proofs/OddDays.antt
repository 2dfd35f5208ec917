-- When the clocks of the odd zone reach a local time, and when they show a day.
use Rattle.demo_own_zone.proofs.Words.{AreEndsOfDay, IsFirstToReach, IsWide, IsWideDay, floor_mod, midnight, odd_offset, pos, ℤ, ◌*ℤ◌, ◌+ℤ◌, ◌-ℤ◌}
use Rattle.demo_own_zone.proofs.{Words.{◌≡◌}, Walls.{halves}}

-- an even second is reached a second early
pub reached_early : (l : ℤ) → IsWide l → floor_mod l 2 ≡ 0 → IsFirstToReach odd_offset l (l -ℤ pos 1)
reached_early = grind halves

-- an odd one is passed when it comes
pub reached_itself : (l : ℤ) → IsWide l → floor_mod l 2 ≡ 1 → IsFirstToReach odd_offset l l
reached_itself = grind halves

-- a day lasts 86,400 seconds, from the second before its midnight
pub ends_of_day : (day first last : ℤ) → IsWideDay day → IsFirstToReach odd_offset (midnight day).s first → last ≡ first +ℤ pos 86_399
    → AreEndsOfDay odd_offset day first last
ends_of_day day first last wide h is = let least = h.first (day *ℤ pos 86_400 -ℤ pos 1) (grind halves) in grind halves
