pub mod BookingLemmas
