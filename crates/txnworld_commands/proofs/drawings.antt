mod Footing
