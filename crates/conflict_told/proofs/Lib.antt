pub mod QuarrelNumberLaws
