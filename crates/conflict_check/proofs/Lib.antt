pub mod QuarrelLaws
