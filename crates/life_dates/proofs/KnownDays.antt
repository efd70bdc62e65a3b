-- Values that any calendar gives, so that a wrong rule in the definitions does not check.
use Rattle.life_dates.proofs.Names.{◌≡◌, pos, negsuc, refl, ymd, day_number, date_of, anniversary_of}

known_days : (day_number (ymd 1900 1 1) ≡ negsuc 25_566) × (day_number (ymd 2199 12 31) ≡ pos 84_005) × (day_number (ymd 2399 12 31) ≡ pos 157_053)
unfolding day_number
known_days = (refl, refl, refl)

known_dates : (date_of (pos 0) ≡ ymd 1970 1 1) × (date_of (negsuc 25_566) ≡ ymd 1900 1 1) × (date_of (pos 19_782) ≡ ymd 2024 2 29)
unfolding date_of
known_dates = (refl, refl, refl)

-- 29 February 2024 comes back as 28 February 2025 and as 29 February 2028
known_anniversaries : (anniversary_of (pos 19_782) 1 ≡ pos 20_147) × (anniversary_of (pos 19_782) 4 ≡ pos 21_243)
unfolding anniversary_of
known_anniversaries = (refl, refl)
